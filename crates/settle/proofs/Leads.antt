-- The parts of a coordinator's first round, joined.
use Rattle.std.proofs.Common.{rules, ◌≡◌, ℕ, true, cond, ◌&&◌, leb, List, [], ◌∷◌, Some, None, sym, ap, ◌∙◌}
use Rattle.std.proofs.lemmas.Bool.{and_parts, cond-true}
use Rattle.process.specs.declared.message.Kind.TheVariants.{Estimate, Ack}
use Rattle.process.specs.declared.message.Message.{Message}
use Rattle.process.specs.declared.memory.OwnCells.{OwnCells}
use Rattle.process.specs.Meetings.{deliver}
use Rattle.process.specs.Messages.{is_reading, well_formed}
use Rattle.process.specs.Rounds.{Step, propose, recover, still}
use Rattle.quorum.specs.Rules.{majority}
use Rattle.settle.specs.Leader.{bare, led, told}

-- cells with nothing in any of them
pub bare_from : (cells : OwnCells) → (cells.proposal ≡ None) × ((cells.round ≡ None) × ((cells.pair ≡ None) × (cells.decision ≡ None))) → cells ≡ bare
bare_from cells (p, (r, (s, d))) = search rules

pub led_from : (n p own other : ℕ) (m₁ m₂ : Message) (idle proposed chosen decided : Step) → n ≡ 3 → p ≡ 2 → m₁ ≡ told Estimate other → m₂ ≡ told Ack 0
    → idle ≡ recover n p (majority n) bare → proposed ≡ propose n p (majority n) own (still idle.memory)
    → chosen ≡ deliver n m₁.addressee (majority n) None m₁ (still proposed.memory) → decided ≡ deliver n m₂.addressee (majority n) None m₂ (still chosen.memory)
    → well_formed n m₁ ≡ true → Some (proposed ∷ chosen ∷ decided ∷ []) ≡ cond (is_reading other) (Some (led own other)) None
led_from n p own other m₁ m₂ idle proposed chosen decided en ep e₁ e₂ i q c d well =
    let i' : idle ≡ recover 3 2 (majority 3) bare = rw (en, ep) at i in
    let q' : proposed ≡ propose 3 2 (majority 3) own (still (recover 3 2 (majority 3) bare).memory) = (rw (en, ep) at q) ∙ ap (λ (s : Step). propose 3 2 (majority 3) own (still s.memory)) i' in
    let c' : chosen ≡ deliver 3 2 (majority 3) None (told Estimate other) (still proposed.memory) = rw (en, e₁) at c in
    let d' : decided ≡ deliver 3 2 (majority 3) None (told Ack 0) (still chosen.memory) = rw (en, e₂) at d in
    let c'' = c' ∙ ap (λ (s : Step). deliver 3 2 (majority 3) None (told Estimate other) (still s.memory)) q' in
    let d'' = d' ∙ ap (λ (s : Step). deliver 3 2 (majority 3) None (told Ack 0) (still s.memory)) c'' in
    let w : (is_reading other && leb 0 999999) ≡ true = rw (en, e₁) at well in
    let reads : is_reading other ≡ true = (and_parts (is_reading other) (leb 0 999999) w).0 in
    let all : ◌≡◌ {A = List Step} (proposed ∷ chosen ∷ decided ∷ []) (led own other) = cc in
    ap Some all ∙ sym (cond-true (is_reading other) (Some (led own other)) None reads)
