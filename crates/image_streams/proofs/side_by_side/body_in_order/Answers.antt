use Rattle.std.proofs.Common.{◌≡◌, ◌*◌, ◌++◌, ap, subst, ◌∙◌}
use Rattle.std.specs.List.{concat}
use Rattle.std.specs.Io.KnownBytes.{Consumes}
use Rattle.image_streams.specs.Body.{body_words}
use Rattle.image_streams.specs.Numbers.{numbers}
use Rattle.image_streams.specs.Incoming.{unread_bytes, known_rest}
use Rattle.image_streams.specs.Extents.{from_place}
use Rattle.image_streams.proofs.Lemmas.Bodies.{length-body}
use Rattle.image_streams.proofs.Lemmas.Extents.{consumes_at}
use Rattle.image_streams.proofs.Lemmas.Reading.{consumes_of_device, none_held}
use Rattle.image_streams.proofs.side_by_side.body_in_order.Goals as goal

pub returns-in-Ok-read : goal.returns-in-Ok-read
returns-in-Ok-read g c =
    let known = g.S.Store.bytes c.args.store.now in
    let extent = c.args.extent in
    let made = c.new-cursor.ensures in
    let body = c.in-Ok-read.body in
    let read = c.in-Ok-read.ensures.body.is in
    let bytes = numbers (concat body.regions.items) ++ numbers body.tail.items in
    let cursor = c.new-cursor.result in
    let same : from_place (g.S.Store.bytes cursor.store.now) cursor.at ≡ from_place known extent.at = ap (λ store. from_place (g.S.Store.bytes store) cursor.at) made.store ∙ ap (from_place known) made.at in
    let incoming = c.new-incoming.result in
    let behind = c.read.new.reader in
    let after = known_rest c.read.new.incoming (from_place (g.S.Store.bytes behind.store.now) behind.at) in
    let none = none_held incoming.bytes.now incoming.start incoming.end c.new-incoming.ensures.none_held in
    let taken : Consumes (from_place (g.S.Store.bytes cursor.store.now) cursor.at) after bytes = consumes_of_device (unread_bytes incoming) (from_place (g.S.Store.bytes cursor.store.now) cursor.at) after bytes none read.bytes in
    record {
      regions = read.regions;
      count = read.count;
      fit = read.fit;
      tail = read.tail;
      tail_fit = read.tail_fit;
      bytes = consumes_at known extent.at (8 * body_words extent.size) after bytes (length-body extent.size body read.regions read.count read.tail) (subst (λ from. Consumes from after bytes) same taken);
    }
