use Rattle.std.proofs.Common.{◌≡◌, ℕ, ◌/◌, ◌%◌, ◌++◌, ◌∷◌, [], false, eqb, cond, List, Some, codes, string_bytes, arith, sym, ap, ap₂, ◌∙◌, subst}
use Rattle.std.specs.Prelude.{OnOk}
use Rattle.std.specs.Option.{option_map}
use Rattle.std.specs.Fmt.{AppendsText, digit_glyph, format_spec, padded_integral, radix_prefix, shown_prefix, styled_digits_output, ◌++?◌}
use Rattle.std.proofs.lemmas.Bool.Decides.{nat_tests}
use Rattle.std.proofs.lemmas.Fmt.{hex_byte}
use Rattle.heap_dump.specs.ClassNames.{is_shown, shown_byte}
use Rattle.heap_dump.proofs.listing.class_names.push_byte.Goals as goal

pub returns : goal.returns
returns c =
    let byte = c.args.byte in
    let line : List ℕ = string_bytes c.args.line.now in
    let more : List ℕ = string_bytes c.write.new.self in
    let pair : List ℕ = codes "\\x" ++ digit_glyph false (byte / 16) ∷ digit_glyph false (byte % 16) ∷ [] in
    let no_slash : eqb byte 47 ≡ false = grind (arith, nat_tests) in
    let hidden : is_shown byte ≡ false = sym c.is_shown.ensures ∙ c.if-is_shown.false in
    let shown : shown_byte byte ≡ pair = ap₂ (λ a b. cond a (codes ".") (cond b (byte ∷ []) pair)) no_slash hidden in
    let with_spec = subst (λ s. OnOk c.write.result (AppendsText line more (Some (codes "\\x") ++? styled_digits_output c.in_radix.result s))) c.laid_out.ensures c.write.ensures.bytes in
    let spec = format_spec 32 0 4 2 18446744073709551615 in
    let with_digits = subst
    (λ o. OnOk c.write.result (AppendsText line more (Some (codes "\\x") ++? option_map (padded_integral spec false (shown_prefix spec (radix_prefix c.in_radix.result.base))) o)))
    c.in_radix.ensures with_spec in
    subst (λ (t : List ℕ). OnOk c.write.result (more ≡ line ++ t)) (ap (λ (t : List ℕ). codes "\\x" ++ t) (hex_byte false byte (omega arith)) ∙ sym shown) with_digits
