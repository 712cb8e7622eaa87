-- The bytes of a body.
use Rattle.std.proofs.Common.{◌≡◌, ◌*◌, ◌^◌, ◌++◌, length, length-append, ap, ◌∙◌, arith}
use Rattle.std.specs.Prelude.{All}
use Rattle.std.specs.List.{concat}
use Rattle.image_streams.specs.Body.{body_words}
use Rattle.image_streams.specs.Numbers.{numbers}
use Rattle.image_streams.specs.declared.body.Body.{Body}
use Rattle.image_streams.specs.declared.body_size.BodySize.{BodySize}
use Rattle.image_streams.proofs.Lemmas.Counts.{length-concat, length-numbers}

pub length-body : (size : BodySize) (body : Body) → All (λ block. length block ≡ 2 ^ size.region_log) body.regions.items → length body.regions.items ≡ size.regions → length body.tail.items ≡ size.numbers → length (numbers (concat body.regions.items) ++ numbers body.tail.items) ≡ 8 * body_words size
length-body size body blocks count tail =
    let words = length-concat (2 ^ size.region_log) body.regions.items blocks ∙ ap (λ n. n * 2 ^ size.region_log) count in
    let first = length-numbers (concat body.regions.items) in
    let second = length-numbers body.tail.items in
    let both = length-append (numbers (concat body.regions.items)) (numbers body.tail.items) in
    omega arith
