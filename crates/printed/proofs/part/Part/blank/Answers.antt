use Rattle.std.proofs.Common.{◌≡◌, rules, tests}
use Rattle.std.proofs.lemmas.Option.{MatchOption-at_some, MatchOption-at_none}
use Rattle.std.proofs.lemmas.Iterator.{IsFirst-from_position, YieldsList-from_slice}
use Rattle.printed.proofs.Fields.{blank_cases}
use Rattle.printed.proofs.part.Part.blank.Goals as goal

pub returns-in-Some : goal.returns-in-Some
returns-in-Some c =
    let first = blank_cases c.args.self.bytes.now c.position.result
    (IsFirst-from_position _ _ _ (λ b. b ≡ 32 → ⊥) (λ b. b ≡ 32) c.position.ensures.ran (YieldsList-from_slice _ (cc)) (λ x q k. search (rules, tests)) (λ x q k. search (rules, tests))) in
    (c.fault.ensures.line, (_, c.fault.ensures.column, MatchOption-at_some _ _ _ c.in-Some.is first))

pub returns-in-None : goal.returns-in-None
returns-in-None c =
    let first = blank_cases c.args.self.bytes.now c.position.result
    (IsFirst-from_position _ _ _ (λ b. b ≡ 32 → ⊥) (λ b. b ≡ 32) c.position.ensures.ran (YieldsList-from_slice _ (cc)) (λ x q k. search (rules, tests)) (λ x q k. search (rules, tests))) in
    MatchOption-at_none _ _ c.in-None.is first
