-- What a panel means, with a tray: by what its rule and its store mean.
use Rattle.std.specs.Prelude.{ℕ, Result}
use Rattle.quorum.specs.declared.QuorumRule.{Ghosts as RuleOf}
use Rattle.store.specs.declared.Store.{Ghosts as StoreOf}
use Rattle.tray.specs.Items.{items, places}
use Rattle.tray.specs.declared.Tray.{Tray}
use Rattle.process.specs.declared.message.Message.{Message}
use Rattle.agreement.specs.declared.call.Refusal.{Refusal}
use Rattle.agreement.specs.Calls.{Outcome, State}
use Rattle.panel.specs.declared.panel.Panel.{Panel}

module _ {S R : Type 0} (rule : RuleOf R) (store : StoreOf S) where
  -- the state of the model that a panel and a tray are in
  abbrev pub state_in : Panel S R → Tray Message → State
  state_in x tray = record { size = rule.processes x.rule; enough = rule.quorum x.rule; places = places tray; statuses = x.table.records; cells = store.cells x.store; box = items tray }

  -- with an answer
  abbrev pub outcome_in : Result ℕ Refusal → Panel S R → Tray Message → Outcome
  outcome_in r x tray = record { answer = r; after = state_in x tray }
