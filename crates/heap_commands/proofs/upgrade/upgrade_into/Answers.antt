use Rattle.std.proofs.Common.{◌≡◌, ◌≤◌, ◌∙◌, ap, length, subst, inr, sym, arith}
use Rattle.std.proofs.lemmas.Result.{err_from_is_err_and}
use Rattle.std.specs.Prelude.{◌++◌, codes, decimal, IfSome}
use Rattle.std.specs.Io.KnownBytes.{Appends}
use Rattle.object_heap.specs.HeapImage.{HeapImage, roots_of}
use Rattle.heap_image.specs.ImageText.{text}
use Rattle.image_streams.specs.Outgoing.{TakesBeginning}
use Rattle.object_heap.specs.Version.{number_of}
use Rattle.heap_image.specs.Refusals.{IsReason}
use Rattle.image_streams.specs.declared.fault.Fault.{Fault}
use Rattle.image_streams.specs.declared.fault.Fault.TheVariants.{Memory}
use Rattle.command_support.specs.declared.failure.Failure.{Failure}
use Rattle.command_support.specs.declared.failure.Failure.TheVariants as failed
use Rattle.heap_commands.specs.Upgrade.{IsBegun}
use Rattle.heap_commands.proofs.Lemmas.Unreplayed.{memory_is_a_reason}
use Rattle.heap_commands.proofs.Lemmas.Upgrades.{version_asked}
use Rattle.heap_commands.proofs.upgrade.upgrade_into.Goals as goal

pub returns-clause-upgrade : goal.returns-clause-upgrade
returns-clause-upgrade g c =
    let read = c.in_ok-image.ensures.read in
    let image = c.in_ok-image.image in
    let took = g.O.Outlet.took c.args.output.now in
    let took' = g.O.Outlet.took c.write_image_buffered.new.writer in
    let found : c.number-2.result ≡ number_of image.version = c.number-2.ensures ∙ ap number_of c.version.ensures.value in
    let earlier : number_of image.version ≤ number_of c.args.version = omega (arith, found, c.number.ensures, c.if-number.false) in (
      image,
      read,
      version_asked c.args.version image earlier,
      subst (λ (image : HeapImage). Appends took took' (text image)) c.in-Ok.ensures.upgraded c.in_ok-write_image_buffered.ensures.text,
      c.roots_line.ensures ∙ ap (λ n. codes "roots " ++ (decimal n ++ codes "\n")) (c.count_roots.ensures ∙ ap (λ (image : HeapImage). length (roots_of image)) c.in-Ok.ensures.upgraded),
    )

pub returns-in_err-write_image_buffered-clause-written : goal.returns-in_err-write_image_buffered-clause-written
returns-in_err-write_image_buffered-clause-written g c =
    let p = err_from_is_err_and c.from_residual-in_err-write_image_buffered.result c.from_residual-in_err-write_image_buffered.ensures.1 in
    let read = c.in_ok-image.ensures.read in
    let took = g.O.Outlet.took c.args.output.now in
    let took' = g.O.Outlet.took c.write_image_buffered.new.writer in
    let begun : IsBegun c.args.version (g.R.Intake.left c.args.input.now) (g.R.Intake.left c.read_image.new.reader) took took' = record {
      image = c.in_ok-image.image;
      read = read;
      written = subst (λ (image : HeapImage). TakesBeginning took took' (text image)) c.in-Ok.ensures.upgraded c.in_err-write_image_buffered.ensures.beginning;
    } in
    rw (p.1) (inr begun)

-- the fault of a failure that has one
fault_in : Failure → Fault
fault_in (failed.Fault fault) = fault
fault_in _ = Memory

pub returns-in-Err-clause-fault : goal.returns-in-Err-clause-fault
unfolding fault_in
returns-in-Err-clause-fault g c = λ fault same.
    let left = g.R.Intake.left c.args.input.now in
    let memory : fault ≡ Memory = sym (ap fault_in same) ∙ c.in-Err.ensures.refused.1 in
    subst (λ f. IfSome left (λ bytes. IsReason bytes f)) (sym memory) (memory_is_a_reason left)
