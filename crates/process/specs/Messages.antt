-- Which fields a message may have.
use Rattle.std.specs.Prelude.{ℕ, Bool, not, ◌&&◌, ◌==◌, nat_le}
use Rattle.process.specs.declared.message.Message.{Message}
use Rattle.process.specs.declared.message.Kind.{Kind}
use Rattle.process.specs.declared.message.Kind.TheVariants.{NewRound, Estimate, NewEstimate, Ack, Decide}

-- a number from one to another
abbrev within : ℕ → ℕ → ℕ → Bool
within low high x = nat_le low x && nat_le x high

-- a round is from 1 to 999,999
abbrev pub is_round : ℕ → Bool
is_round r = within 1 999999 r

-- a reading is from 1 to 99,999,999
abbrev pub is_reading : ℕ → Bool
is_reading v = within 1 99999999 v

-- the fields that a kind has are in range, and the others are 0
abbrev pub fields : Kind → ℕ → ℕ → ℕ → Bool
fields NewRound r v t = is_round r && v == 0 && t == 0
fields Estimate r v t = is_round r && is_reading v && nat_le t 999999
fields NewEstimate r v t = is_round r && is_reading v && t == 0
fields Ack r v t = is_round r && v == 0 && t == 0
fields Decide r v t = r == 0 && is_reading v && t == 0

-- sender and addressee are two of 1 to n
abbrev pub between : ℕ → Message → Bool
between n m = within 1 n m.sender && within 1 n m.addressee && not (m.sender == m.addressee)

-- a message has the fields that its kind may have
abbrev pub well_formed : ℕ → Message → Bool
well_formed n m = between n m && fields m.kind m.round m.reading m.stamp
