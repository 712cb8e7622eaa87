use Rattle.std.proofs.Common.{◌++◌, [], arith, Result, Ok, Err}
use Rattle.std.specs.Prelude.{IfOk}
use Rattle.std.specs.List.{concat}
use Rattle.image_streams.specs.Body.{IsBody}
use Rattle.image_streams.specs.Numbers.{numbers}
use Rattle.image_streams.specs.Incoming.{known_rest, unread_bytes}
use Rattle.image_streams.specs.Reading.{ReadsBody}
use Rattle.image_streams.proofs.Lemmas.Known.{consumes_more}
use Rattle.image_streams.proofs.Lemmas.Reading.{consumes_of_device, consumes_to_device, none_held}
use Rattle.image_streams.proofs.body.read_body_in_order.Goals as goal

-- what follows of a value
done : {T E : Type 0} (r : Result T E) (P Q : T → Type 0) → IfOk r P → ((v : T) → P v → Q v) → IfOk r Q
done (Ok v) P Q p f = f v p
done (Err e) P Q p f = tt

pub returns-clause-memory : goal.returns-clause-memory
returns-clause-memory g c = λ _. let some = c.requires.some in let due = c.new-incoming.ensures.due in c.in_ok-top_up.ensures.ready.came c.new-incoming.ensures.none_held (omega arith)

pub returns-clause-body : goal.returns-clause-body
returns-clause-body g c =
    let size = c.args.size in
    let incoming = c.new-incoming.result in
    let before = g.R.Intake.left c.args.reader.now in
    let start = known_rest incoming before in
    let topped = known_rest c.top_up.new.self (g.R.Intake.left c.top_up.new.reader) in
    let left = g.R.Intake.left c.read.new.reader in
    let kept = c.read.new.incoming in
    let after = known_rest kept left in
    let none = none_held incoming.bytes.now incoming.start incoming.end c.new-incoming.ensures.none_held in
    let due = c.new-incoming.ensures.due in
    let same = c.in_ok-top_up.ensures.ready.none.fewer in
    done c.read.result (ReadsBody g.R.Intake.left size c.top_up.new.self kept c.top_up.new.reader c.read.new.reader) (IsBody size before left) c.read.ensures.body (λ body read.
    let is = read.is in
    let all = read.fewer in
    let bytes = numbers (concat body.regions.items) ++ numbers body.tail.items in
    let ordered = read.in_range.ordered in
    let rest = none_held kept.bytes.now kept.start kept.end (omega arith) in
    let taken = consumes_more start topped after [] bytes c.in_ok-top_up.ensures.ready.none.bytes is.bytes in
    record {
      regions = is.regions;
      count = is.count;
      fit = is.fit;
      tail = is.tail;
      tail_fit = is.tail_fit;
      bytes = consumes_to_device (unread_bytes kept) before left bytes rest (consumes_of_device (unread_bytes incoming) before after bytes none taken);
    })

pub returns-clause-lost : goal.returns-clause-lost
returns-clause-lost g c =
    let one = c.top_up.ensures.device.lost in
    let two = c.read.ensures.device.lost in
    (one.0 ++ two.0, consumes_more (g.R.Intake.left c.args.reader.now) (g.R.Intake.left c.top_up.new.reader) (g.R.Intake.left c.read.new.reader) one.0 two.0 one.1 two.1)
