use Rattle.std.proofs.Common.{rules, ◌≡◌, take, arith}
use Rattle.object_heap.specs.Version.{magic}
use Rattle.heap_image.proofs.Lemmas.ReadBack.{front_of_bytes, magic_found}
use Rattle.heap_image.proofs.io.front.Front.parse_unvalidated.Goals as goal

pub returns-clause-fields : goal.returns-clause-fields
returns-clause-fields c =
    let version = c.in-Some.version in
    let found = c.named_version.ensures in
    let magic_is : take 8 c.args.bytes.now ≡ magic version = magic_found c.args.bytes.now c.named_version.result version c.in-Some.is c.in-Some.ensures.version found.known in
    record {
      all = front_of_bytes version c.args.bytes.now (λ i. omega (arith, c.type_inv.bytes i)) c.requires magic_is c.u32_at-region_log.result c.u32_at.result c.u64_at.result c.u64_at-2.result c.u32_at-region_log.ensures c.u32_at.ensures c.u64_at.ensures c.u64_at-2.ensures;
      version = search rules;
      region_log = search rules;
      count = search rules;
      words = search rules;
      counted = search rules;
      allowance = search rules;
    }
