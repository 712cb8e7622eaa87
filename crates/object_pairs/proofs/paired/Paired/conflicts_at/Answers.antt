use Rattle.std.proofs.Common.{◌≡◌, ℕ, ◌<◌, ◌-◌, List, get_or, length, ◌∙◌, ap, ap₂, arith}
use Rattle.std.specs.Prelude.{count_by}
use Rattle.std.specs.List.{zip}
use Rattle.std.proofs.lemmas.List.{get_or_read}
use Rattle.object_pairs.specs.Conflicts.{is_in}
use Rattle.object_pairs.specs.Graph.{references_of}
use Rattle.object_pairs.proofs.Lemmas.Pairs.{conflicts_here, partner_inside}
use Rattle.object_pairs.proofs.paired.Paired.conflicts_at.Goals as goal

pub index-other-requires : goal.index-other-requires
index-other-requires c =
    let paired = c.args.self.now in
    let partners = paired.pairing.now.partners.items in
    let is = c.requires.pairing in
    let below : c.args.index < length partners = let e = is.length_before in let f = c.requires.inside in omega arith in
    let at : c.index-partner.result.now ≡ get_or partners c.args.index 0 = get_or_read partners c.args.index c.index-partner.result.now below c.index-partner.ensures 0 in
    let inside = partner_inside paired.before.now.objects.items paired.after.now.objects.items paired.pairing.now c.args.index c.index-partner.result.now is at (omega arith) in
    omega arith

pub returns : goal.returns
returns c =
    let paired = c.args.self.now in
    let partners = paired.pairing.now.partners.items in
    let is = c.requires.pairing in
    let below : c.args.index < length partners = let e = is.length_before in let f = c.requires.inside in omega arith in
    let at : c.index-partner.result.now ≡ get_or partners c.args.index 0 = get_or_read partners c.args.index c.index-partner.result.now below c.index-partner.ensures 0 in
    let there = partner_inside paired.before.now.objects.items paired.after.now.objects.items paired.pairing.now c.args.index c.index-partner.result.now is at (omega arith) in
    let sources = paired.before.now.references.items in
    let targets = paired.after.now.references.items in
    let one = c.index-one.result.now in
    let other = c.index-other.result.now in
    let counted : c.count.result ≡ count_by (λ (x : ℕ × ℕ). is_in c.args.kind partners x.0 x.1) (zip (references_of sources one) (references_of targets other)) =
    c.count.ensures
    ∙ ap (λ (ps : List ℕ). count_by (λ (x : ℕ × ℕ). is_in c.args.kind ps x.0 x.1) (zip c.references_of-references.result.now c.references_of-targets.result.now)) c.deref.ensures.value
    ∙ ap₂ (λ (rs ts : List ℕ). count_by (λ (x : ℕ × ℕ). is_in c.args.kind partners x.0 x.1) (zip rs ts)) c.references_of-references.ensures c.references_of-targets.ensures in
    conflicts_here paired.before.now.objects.items paired.after.now.objects.items partners c.args.index c.index-partner.result.now one other
    at c.requires.inside there c.index-one.ensures c.index-other.ensures c.args.kind sources targets c.count.result (omega arith) counted
