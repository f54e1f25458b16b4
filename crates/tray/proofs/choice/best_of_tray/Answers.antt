use Rattle.tray.specs.Best.{Chosen}
use Rattle.tray.specs.Items.{items}
use Rattle.tray.proofs.Bests.{chosen_best, chosen_same}
use Rattle.tray.proofs.First.{chosen_from_best}
use Rattle.tray.proofs.choice.best_of_tray.Goals as goal

pub returns : goal.returns
returns g c =
    let prefers = g.T.Preference.prefers in
    let xs = items c.args.tray.now in
    let chosen : Chosen prefers xs c.at.result =
    chosen_from_best prefers xs c.in_ok-place.place _ (rw c.as_slice.ensures at c.in_ok-place.ensures) c.at.ensures in
    record {
      chosen = chosen;
      value = chosen_same prefers xs _ _ chosen (chosen_best prefers g.met.T.Preference.total g.met.T.Preference.transitive xs);
    }
