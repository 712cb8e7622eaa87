use Rattle.history.proofs.Lemmas.Records.{recorded}
use Rattle.history.proofs.laws.record_laws.checked_histories_are_records.Goals as goal

pub returns : goal.returns
returns c image v valid history checked =
    recorded image v (c.moves_of_images.ensures.lawful image valid) c.settled_histories_have_each_once.ensures history checked
