-- Rows that were worked out by hand.
use Rattle.std.specs.Prelude.{ℕ, suc, Bool, true, false, not, List, [], ◌∷◌, Some, None, Option, ◌==◌}
use Rattle.quorum.specs.Rules.{majority, heavy, grid}
use Rattle.tray.specs.declared.kinds.Estimate.{Estimate}
use Rattle.process.specs.declared.memory.Memory.{Memory}
use Rattle.process.specs.Looks.{next_round}
use Rattle.process.specs.Rounds.{best_kept, blank, coordinator}

-- the set of the processes that are written as 1
abbrev set_of : List ℕ → List Bool
set_of [] = []
set_of (b ∷ bs) = (b == 1) ∷ set_of bs

-- a memory in round r that heard of round h
abbrev in_round : ℕ → ℕ → Memory
in_round r h = record {
  phase = blank.phase;
  round = r;
  reading = blank.reading;
  stamp = blank.stamp;
  heard = h;
  epoch = blank.epoch;
  kept = blank.kept;
  acknowledgers = blank.acknowledgers;
  last = blank.last;
}

-- the entry of a process that is trusted or not
abbrev trusted : Bool → Option ℕ
trusted true = Some 0
trusted false = None

-- a list that trusts the processes that are written as 1
abbrev trusting : List ℕ → List (Option ℕ)
trusting [] = []
trusting (b ∷ bs) = trusted (b == 1) ∷ trusting bs

-- the answer is this number
abbrev is_some_of : ℕ → Option ℕ → Bool
is_some_of k None = false
is_some_of k (Some x) = x == k

-- the answer is that there is none
abbrev is_none : Option ℕ → Bool
is_none None = true
is_none (Some x) = false

-- estimates of processes 1, 2 and so on, each a reading and a stamp
abbrev estimates : ℕ → List (ℕ × ℕ) → List (Option Estimate)
estimates p [] = []
estimates p ((v, t) ∷ es) = Some (record { sender = p; reading = v; stamp = t }) ∷ estimates (suc p) es

-- the estimate has this reading
abbrev chooses : ℕ → Option Estimate → Bool
chooses v None = false
chooses v (Some e) = e.reading == v

-- each row is a test that comes out true
abbrev pub rows : List Bool
rows =
    -- the coordinator of rounds 1 and 5 among five
    (coordinator 5 1 == 2) ∷ (coordinator 5 5 == 1)
    -- majority of four
    ∷ not (majority 4 (set_of (1 ∷ 1 ∷ 0 ∷ 0 ∷ []))) ∷ majority 4 (set_of (1 ∷ 1 ∷ 1 ∷ 0 ∷ []))
    -- weights 5, 1, 1, 1, 1
    ∷ heavy (5 ∷ 1 ∷ 1 ∷ 1 ∷ 1 ∷ []) (set_of (1 ∷ 0 ∷ 0 ∷ 0 ∷ 0 ∷ []))
    ∷ not (heavy (5 ∷ 1 ∷ 1 ∷ 1 ∷ 1 ∷ []) (set_of (0 ∷ 1 ∷ 1 ∷ 1 ∷ 1 ∷ [])))
    -- the grid
    ∷ grid (set_of (1 ∷ 1 ∷ 1 ∷ 1 ∷ 0 ∷ 0 ∷ 1 ∷ 0 ∷ 0 ∷ [])) ∷ not (grid (set_of (1 ∷ 1 ∷ 1 ∷ 1 ∷ 1 ∷ 0 ∷ 0 ∷ 0 ∷ 0 ∷ [])))
    -- the next round: of five, from round 1, process 2 trusted; and with 9 heard of, process 4 trusted
    ∷ is_some_of 6 (next_round 5 (trusting (0 ∷ 1 ∷ 0 ∷ 0 ∷ 0 ∷ [])) (in_round 1 0))
    ∷ is_some_of 13 (next_round 5 (trusting (0 ∷ 0 ∷ 0 ∷ 1 ∷ 0 ∷ [])) (in_round 1 9))
    -- the last round, and none after it
    ∷ is_some_of 999999 (next_round 5 (trusting (0 ∷ 0 ∷ 0 ∷ 0 ∷ 1 ∷ [])) (in_round 999998 0))
    ∷ is_none (next_round 5 (trusting (0 ∷ 0 ∷ 0 ∷ 1 ∷ 0 ∷ [])) (in_round 999998 0))
    -- the best of estimates
    ∷ chooses 7 (best_kept (estimates 1 ((5, 0) ∷ (7, 3) ∷ (9, 2) ∷ []))) ∷ chooses 5 (best_kept (estimates 1 ((5, 0) ∷ (7, 0) ∷ [])))
    ∷ []
