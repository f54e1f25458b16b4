-- Which estimates and which rounds are preferred.
use Rattle.std.specs.Prelude.{Bool, ◌&&◌, ◌||◌, ◌==◌, nat_le, nat_lt}
use Rattle.tray.specs.declared.kinds.Estimate.{Estimate}
use Rattle.tray.specs.declared.kinds.Round.{Round}

-- a greater stamp is preferred, and at equal stamps a lower sender
abbrev pub prefers_estimate : Estimate → Estimate → Bool
prefers_estimate x y = nat_lt y.stamp x.stamp || (x.stamp == y.stamp && nat_le x.sender y.sender)

-- a smaller round is preferred
abbrev pub prefers_round : Round → Round → Bool
prefers_round x y = nat_le x.number y.number
