use Rattle.heap_commands.proofs.reduce.reduce_into.Goals as goal

pub returns-clause-reduction : goal.returns-clause-reduction
returns-clause-reduction g c = record {
  before = c.in_ok-image.image;
  after = c.in_ok-made.made.image;
  read = c.in_ok-image.ensures.read;
  valid = c.in_ok-made.ensures.valid;
  reduced = c.in_ok-made.ensures.reduced;
  written = c.in_ok-write_image_buffered.ensures.text;
}
