use Rattle.std.proofs.Common.{◌≡◌, ℕ, ◌<◌, ◌+◌, ◌*◌, ◌^◌, List, Option, Result, Ok, Err, length, ap, subst, ◌∙◌}
use Rattle.std.proofs.lemmas.Result.{IfOk-weaker}
use Rattle.std.specs.Prelude.{All, IfErr, IfSome}
use Rattle.image_streams.specs.Body.{IsBody, IsOfBody, body_words}
use Rattle.image_streams.specs.Incoming.{FallsShort}
use Rattle.image_streams.specs.declared.fault.Fault.{Fault}
use Rattle.image_streams.specs.declared.fault.Fault.TheVariants.{TruncatedBody, Memory}
use Rattle.image_streams.specs.declared.body.Body.{Body}
use Rattle.image_streams.specs.declared.body_size.BodySize.{BodySize}
use Rattle.heap_image.specs.Reading.{IsBodyOf, IsBodyRefusal}
use Rattle.heap_image.specs.declared.io.front.Front.{Front}
use Rattle.heap_image.proofs.Lemmas.Bodies.{length-blocks}
use Rattle.heap_image.proofs.io.read.read_body.Goals as goal

body_of : (front : Front) (size : BodySize) (before after : Option (List ℕ)) (body : Body) → size.region_log ≡ front.region_log → size.regions * 2 ^ front.region_log ≡ front.words → size.numbers ≡ front.count → IsBody size before after body → IsBodyOf front before after body
body_of front size before after body log words count is = record {
  bytes = is.bytes;
  regions = subst (λ l. All (λ block. length block ≡ 2 ^ l) body.regions.items) log is.regions;
  fit = is.fit;
  words = length-blocks size.region_log size.regions body.regions.items is.regions is.count ∙ ap (λ l. size.regions * 2 ^ l) log ∙ words;
  tail = is.tail ∙ count;
  tail_fit = is.tail_fit;
}

pub returns-in-Some-clause-body : goal.returns-in-Some-clause-body
returns-in-Some-clause-body g c =
    let size = c.body_size-size in
    body_of c.args.front size.result _ _ c.in-Some.body size.ensures.region_log size.ensures.regions size.ensures.numbers c.in-Some.ensures.taken

pub returns-in-None-clause-body : goal.returns-in-None-clause-body
returns-in-None-clause-body g c =
    let size = c.body_size-size in
    let before = g.R.Intake.left c.args.reader.now in
    let middle = g.R.Intake.left c.take_body.new.self in
    let after = g.R.Intake.left c.read_body_in_order.new.reader in
    let same : middle ≡ before = c.take_body.ensures.none c.in-None.is in
    IfOk-weaker c.read_body_in_order.result (IsBody size.result middle after) (IsBodyOf c.args.front before after) (λ body is. body_of c.args.front size.result before after body size.ensures.region_log size.ensures.regions size.ensures.numbers (subst (λ left. IsBody size.result left after body) same is)) c.read_body_in_order.ensures.body

-- what reading in order says of its faults
refused_of : (front : Front) (size : BodySize) (before middle after : Option (List ℕ)) (answer : Result Body Fault) → middle ≡ before → body_words size ≡ front.words + front.count → IfErr answer IsOfBody
    → (answer ≡ Err TruncatedBody → FallsShort middle after (body_words size)) → (answer ≡ Err Memory → IfSome middle (λ rest. 0 < length rest)) → IfErr answer (IsBodyRefusal front before after)
refused_of front size before middle after (Ok body) same words kind short memory = tt
refused_of front size before middle after (Err fault) same words kind short memory = record {
  kind = kind;
  truncated = λ e. subst (λ n. FallsShort before after n) words (subst (λ left. FallsShort left after (body_words size)) same (short (ap Err e)));
  memory = λ e. subst (λ left. IfSome left (λ rest. 0 < length rest)) same (memory (ap Err e));
}

pub returns-in-None-clause-refused : goal.returns-in-None-clause-refused
returns-in-None-clause-refused g c =
    let size = c.body_size-size in
    let before = g.R.Intake.left c.args.reader.now in
    let middle = g.R.Intake.left c.take_body.new.self in
    let after = g.R.Intake.left c.read_body_in_order.new.reader in
    let read = c.read_body_in_order.ensures in
    let words : body_words size.result ≡ c.args.front.words + c.args.front.count = ap (λ log. size.result.regions * 2 ^ log + size.result.numbers) size.ensures.region_log ∙ ap (λ n. n + size.result.numbers) size.ensures.regions ∙ ap (λ n. c.args.front.words + n) size.ensures.numbers in
    refused_of c.args.front size.result before middle after c.read_body_in_order.result (c.take_body.ensures.none c.in-None.is) words read.fault read.truncated read.memory
