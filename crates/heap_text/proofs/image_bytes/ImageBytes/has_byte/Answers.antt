use Rattle.std.proofs.Common.{rules, ◌≡◌, ◌∙◌, ◌++◌, ℕ, List, ap, length, take, drop, append-nil, arith, length-drop}
use Rattle.std.proofs.lemmas.List.{drop_all, drop_at, length-take-le}
use borrow.Rule.Slice.PartMut.{put_mid}
use Rattle.heap_text.specs.ImageBytes.{numbers_left}
use Rattle.heap_text.proofs.Lemmas.ByteSteps.{number_bytes_left}
use Rattle.heap_text.proofs.image_bytes.ImageBytes.has_byte.Goals as goal

last_put : (xs ys : List ℕ) → length xs ≡ 32 → drop 24 (put_mid 24 8 xs ys) ≡ ys
last_put xs ys len =
    drop_at (take 24 xs) (ys ++ drop 8 (drop 24 xs)) 24 (length-take-le 24 xs (omega (arith, len)))
    ∙ (ap (λ (t : List ℕ). ys ++ t) (drop_all 8 (drop 24 xs) (omega (arith, len, length-drop 24 xs))) ∙ append-nil ys)

pub returns-clause-same : goal.returns-clause-same
returns-clause-same c =
    let len : length c.args.self.now.bytes ≡ 32 = search rules in
    let len' : length c.next_number.new.self.bytes ≡ 32 = ap (λ (xs : List ℕ). length xs) c.next_number.ensures.bytes ∙ len in
    number_bytes_left c.args.self.now.bytes (put_mid 24 8 c.next_number.new.self.bytes c.copy_from_slice.new.self) (numbers_left c.args.self.now) (numbers_left c.next_number.new.self)
    c.args.self.now.byte c.in-Some.number (omega (arith, len, c.if-self-lt-FRONT_BYTES.false))
    (last_put c.next_number.new.self.bytes c.copy_from_slice.new.self len' ∙ (c.copy_from_slice.ensures.after ∙ c.to_le_bytes.ensures)) c.in-Some.ensures.some
