-- The text of a list: a blank before each entry, or ` -` where there is none.
use Rattle.std.specs.Prelude.{ℕ, suc, Bool, cond, List, [], ◌∷◌, ◌++◌, is_none, Some, None, codes, Option, flat_map}
use Rattle.std.specs.List.{list_all}
use Rattle.std.specs.Option.{option_to_list}

-- no slot has an entry
abbrev pub vacant : {X : Type 0} → List (Option X) → Bool
vacant xs = list_all is_none xs

-- the entries, with a blank before each
abbrev pub slots_text : {X : Type 0} → (X → List ℕ) → List (Option X) → List ℕ
slots_text f xs = flat_map (λ x. codes " " ++ f x) (flat_map option_to_list xs)

-- a list
abbrev pub list_text : {X : Type 0} → (X → List ℕ) → List (Option X) → List ℕ
list_text f xs = cond (vacant xs) (codes " -") (slots_text f xs)

-- the members of a set, from process k on
abbrev pub members_from : ℕ → List Bool → List (Option ℕ)
members_from k [] = []
members_from k (b ∷ bs) = cond b (Some k) None ∷ members_from (suc k) bs
