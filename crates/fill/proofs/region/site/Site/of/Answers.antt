use Rattle.std.proofs.Common.{arith}
use Rattle.fill.proofs.region.site.Site.of.Goals as goal

pub span-requires : goal.span-requires
span-requires c =
    let few = c.regions_to_fill.ensures.few c.args.guide.now c.image_is_valid.ensures in
    omega (arith, c.requires)
