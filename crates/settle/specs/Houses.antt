-- What houses 1 to n have in their cells.
use Rattle.std.specs.Prelude.{ℕ, zero, suc, Bool, cond, ◌&&◌, List, [], ◌∷◌, ◌++◌, is_some, Some, None, Option}
use Rattle.std.specs.Option.{option_to_list}
use Rattle.store.specs.declared.content.Content.{Content}
use Rattle.store.specs.Cells.{Cells}
use Rattle.store.specs.Ranges.{is_cell}
use Rattle.tray.specs.declared.kinds.Estimate.{Estimate}

-- the first of two that is there
abbrev first : Option Content → Option Content → Option Content
first None other = other
first (Some c) other = Some c

-- a content of house p, as it offers it
abbrev offered : ℕ → Option Content → Option Estimate
offered p None = None
offered p (Some c) = Some (record { sender = p; reading = c.number; stamp = c.stamp })

-- its pair, or else its proposal
abbrev pub estimate : Cells → ℕ → Option Estimate
estimate cs p = cond (is_cell p 3) (offered p (first (cs p 3) (cs p 1))) None

-- what houses 1 to n offer, in their order
abbrev pub offers : Cells → ℕ → List Estimate
offers cs zero = []
offers cs (suc n) = offers cs n ++ option_to_list (estimate cs (suc n))

-- house p has a proposal
abbrev pub proposes : Cells → ℕ → Bool
proposes cs p = is_cell p 1 && is_some (cs p 1)

-- which of the houses 1 to n have a proposal
abbrev pub proposing : Cells → ℕ → List Bool
proposing cs zero = []
proposing cs (suc n) = proposing cs n ++ proposes cs (suc n) ∷ []
