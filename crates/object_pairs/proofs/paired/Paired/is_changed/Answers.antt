use Rattle.std.proofs.Common.{◌≡◌, ◌<◌, ◌-◌, get_or, length, arith}
use Rattle.std.proofs.lemmas.List.{get_or_read}
use Rattle.object_pairs.proofs.Lemmas.Pairs.{changed_here, partner_inside}
use Rattle.object_pairs.proofs.paired.Paired.is_changed.Goals as goal

pub index-other-requires : goal.index-other-requires
index-other-requires c =
    let paired = c.args.self.now in
    let partners = paired.pairing.now.partners.items in
    let is = c.requires.pairing in
    let below : c.args.index < length partners = let e = is.length_before in let f = c.requires.inside in omega arith in
    let at : c.index-partner.result.now ≡ get_or partners c.args.index 0 = get_or_read partners c.args.index c.index-partner.result.now below c.index-partner.ensures 0 in
    let inside = partner_inside paired.before.now.objects.items paired.after.now.objects.items paired.pairing.now c.args.index c.index-partner.result.now is at (omega arith) in
    omega arith

pub returns : goal.returns
returns c =
    let paired = c.args.self.now in
    let partners = paired.pairing.now.partners.items in
    let is = c.requires.pairing in
    let below : c.args.index < length partners = let e = is.length_before in let f = c.requires.inside in omega arith in
    let at : c.index-partner.result.now ≡ get_or partners c.args.index 0 = get_or_read partners c.args.index c.index-partner.result.now below c.index-partner.ensures 0 in
    let there = partner_inside paired.before.now.objects.items paired.after.now.objects.items paired.pairing.now c.args.index c.index-partner.result.now is at (omega arith) in
    changed_here paired.before.now.objects.items paired.after.now.objects.items partners c.args.index c.index-partner.result.now c.index.result.now c.index-other.result.now
    at c.requires.inside there c.index.ensures c.index-other.ensures (omega arith)
