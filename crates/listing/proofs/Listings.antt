-- Lists written one entry after the other.
use Rattle.std.proofs.Common.{◌≡◌, ℕ, zero, suc, ◌+◌, ◌<◌, Bool, true, false, List, [], ◌∷◌, ◌++◌, map, length, get_or, is_ok, Some, None, codes, Option, Result, sym, refl, ap, ◌∙◌, add-zero, add-suc, suc-add, arith}
use Rattle.listing.specs.Lists.{list_text, members_from, slots_text, vacant}
use Rattle.std.proofs.lemmas.Iterator.{YieldsList}
use Rattle.std.proofs.lemmas.List.{flat_map_more}
use Rattle.std.proofs.lemmas.List.Folds.{flat_map-map}
use Rattle.std.proofs.lemmas.List.FromFn.{fill_by_all}
use Rattle.std.proofs.Output.{has_written_of_eq, has_written_append}
use Rattle.std.specs.Bool.{then_some}
use Rattle.std.specs.Borrow.{Bor}
use Rattle.std.specs.Fmt.{IsPlainFormatter, WritesOnOk, HasWritten}
use Rattle.std.specs.Iterator.Adapters.{option_iter_done, option_iter_item, option_iter_steps}
use Rattle.std.specs.List.{flat_map, range_with_len}
use Rattle.std.specs.Option.{option_to_list}
use Rattle.std.specs.declared.fmt.Error.{Error}
use Rattle.std.specs.declared.fmt.Formatter.{Formatter}

-- a slot gives its entry, if it has one
pub slot_gives : {X : Type 0} {s : _} (o : Option X) → option_iter_item s ≡ o → option_iter_done s ≡ false →
    YieldsList option_iter_steps (λ x. x.now) s (option_to_list o)
slot_gives None e d = record { runs = λ x j h. let m = rw d at h.1 in let z : Some x.now ≡ None = m ∙ e in cc }
slot_gives (Some y) e d = record {
  runs = (
    λ j h. let m = rw d at h.1 in let z : None ≡ Some y = m ∙ e in cc,
    λ x j h.
        let m = rw d at h.1 in
        let z : Some x.now ≡ Some y = m ∙ e in
        (cc, λ x' j' h'. let n = rw h.0 at h'.1 in cc),
  );
}

-- these entries are written
abbrev pub Listing : {X W : Type 0} → (X → List ℕ) → (W → List ℕ → W → Type 0) → List (Bor X) → Formatter W → Formatter W → Type 0
Listing text took ys f g = IsPlainFormatter f → HasWritten took f (flat_map (λ y. codes " " ++ text y.now) ys) g

pub listing_more : {X W : Type 0} (text : X → List ℕ) (took : W → List ℕ → W → Type 0) (ys : List (Bor X)) (y : Bor X) (f g h : Formatter W) (r : Result (Unit {0}) Error) →
    Listing text took ys f g → is_ok r ≡ true → WritesOnOk took g r (codes " " ++ text y.now) h → Listing text took (ys ++ y ∷ []) f h
listing_more text took ys y f g h r l o w p =
    let q = l p in
    has_written_of_eq took f _ _ h (flat_map_more (λ y. codes " " ++ text y.now) [] ys y)
    (has_written_append took f (flat_map (λ y. codes " " ++ text y.now) ys) g (codes " " ++ text y.now) h q (w q.plain o))

pub listing_all : {X W : Type 0} (text : X → List ℕ) (took : W → List ℕ → W → Type 0) (xs : List (Option X)) (ys : List (Bor X)) (f g : Formatter W) →
    Listing text took ys f g → map (λ y. y.now) ys ≡ flat_map option_to_list xs → false ≡ vacant xs → IsPlainFormatter f → HasWritten took f (list_text text xs) g
listing_all text took xs ys f g l e v p =
    let t : flat_map (λ y. codes " " ++ text y.now) ys ≡ slots_text text xs =
    sym (flat_map-map (λ x. codes " " ++ text x) (λ y. y.now) ys) ∙ ap (flat_map (λ x. codes " " ++ text x)) e in
    rw (sym v) (has_written_of_eq took f _ _ g t (l p))

-- the members of a set, by place
length-members : (k : ℕ) (bs : List Bool) → length (members_from k bs) ≡ length bs
length-members k [] = refl
length-members k (b ∷ bs) = ap suc (length-members (suc k) bs)

get_or-members : (k : ℕ) (bs : List Bool) (i : ℕ) (d : Option ℕ) → i < length bs →
    get_or (members_from k bs) i d ≡ then_some (get_or bs i false) (k + i)
get_or-members k [] i d h = absurd (omega arith)
get_or-members k (true ∷ bs) zero d h = rw add-zero refl
get_or-members k (false ∷ bs) zero d h = refl
get_or-members k (b ∷ bs) (suc i) d h = rw (add-suc, ← suc-add) (get_or-members (suc k) bs i d (omega arith))

pub members_all : (bs : List Bool) → length bs ≡ 9 → map (λ i. then_some (get_or bs i false) (1 + i)) (range_with_len 0 9) ≡ members_from 1 bs
members_all bs l =
    sym (fill_by_all (λ i. then_some (get_or bs i false) (1 + i)) (members_from 1 bs) 9 None (length-members 1 bs ∙ l)
    (λ i h. get_or-members 1 bs i None (omega arith)))
