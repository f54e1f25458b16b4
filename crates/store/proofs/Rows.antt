-- A write to a store that keeps its cells in one row.
use Rattle.std.proofs.Common.{◌≡◌, ℕ, ◌<◌, ◌≤◌, true, cond, ◌&&◌, List, length, get_or, set, replicate, Some, None, Ok, Err, Option, sym, refl, ◌∙◌, subst, arith}
use mathlib.Core.Path.{fun_ext}
use Rattle.store.specs.declared.content.Refusal.TheVariants.{NoSuchCell}
use Rattle.std.proofs.lemmas.List.{get_or-replicate, get_or-set_same, get_or-set_other}
use Rattle.std.proofs.lemmas.Bool.{and_from, cond-true}
use Rattle.std.proofs.lemmas.Bool.Decides.{nat_tests}
use Rattle.store.specs.declared.content.Content.{Content}
use Rattle.store.specs.Ranges.{is_cell, index, fits}
use Rattle.store.specs.Cells.{Cells, absent, Sound, put, written, in_row}

pub cell_bounds : (p c : ℕ) → is_cell p c ≡ true → (1 ≤ p) × (p ≤ 9) × (1 ≤ c) × (c ≤ 4)
cell_bounds p c h = grind (arith, nat_tests)

pub index_below : (p c : ℕ) → is_cell p c ≡ true → index p c < 36
index_below p c h = omega (arith, cell_bounds p c h)

sound_put : (cs : Cells) (p c : ℕ) (v : Content) → fits c v ≡ true → Sound cs → Sound (put cs p c v)
sound_put cs p c v f s q d = grind (arith, nat_tests, f, s q d)

-- the row after holds the content at the cell's index, and is the row before elsewhere
module _ (before after : ℕ → Option Content) (p c : ℕ) (v : Content) (cell : is_cell p c ≡ true)
    (here : after (index p c) ≡ Some v) (there : (k : ℕ) → k < 36 → (k ≡ index p c → ⊥) → after k ≡ before k) where
  in_row_put : in_row after ≡ put (in_row before) p c v
  in_row_put = fun_ext (λ q. fun_ext (λ d. grind (arith, nat_tests, cell, here, there (index q d))))

  pub in_row_written : fits c v ≡ true → in_row after ≡ written (in_row before) p c v
  in_row_written f = in_row_put ∙ sym (cond-true (is_cell p c && fits c v) _ _ (and_from _ _ cell f))

  pub in_row_sound : fits c v ≡ true → Sound (in_row before) → Sound (in_row after)
  in_row_sound f s = subst Sound (sym in_row_put) (sound_put (in_row before) p c v f s)

-- a row in which nothing stands
pub in_row_absent : (row : ℕ → Option Content) → ((k : ℕ) → k < 36 → row k ≡ None) → in_row row ≡ absent
in_row_absent row none = fun_ext (λ p. fun_ext (λ c. grind (arith, nat_tests, none (index p c))))

pub in_row_none_sound : (row : ℕ → Option Content) → ((k : ℕ) → k < 36 → row k ≡ None) → Sound (in_row row)
in_row_none_sound row none = subst Sound (sym (in_row_absent row none)) (λ p c. refl)

-- what `index_of` answered
pub index_known : (p c k : ℕ) → Ok k ≡ cond (is_cell p c) (Ok (index p c)) (Err NoSuchCell) → (is_cell p c ≡ true) × (k ≡ index p c)
index_known p c k e = grind (arith, nat_tests)

-- a row in memory
module _ (row : List (Option Content)) (p c k : ℕ) (v : Content) (long : length row ≡ 36)
    (known : Ok k ≡ cond (is_cell p c) (Ok (index p c)) (Err NoSuchCell)) (fit : fits c v ≡ true) where
  here : get_or (set row k (Some v)) (index p c) None ≡ Some v
  here =
      let (cell, is) = index_known p c k known in
      rw is (get_or-set_same row (index p c) (Some v) None (omega (arith, index_below p c cell)))

  there : (j : ℕ) → j < 36 → (j ≡ index p c → ⊥) → get_or (set row k (Some v)) j None ≡ get_or row j None
  there j h apart = get_or-set_other row k j (Some v) None (λ e. apart (e ∙ (index_known p c k known).1))

  pub set_written : in_row (λ j. get_or (set row k (Some v)) j None) ≡ written (in_row (λ j. get_or row j None)) p c v
  set_written = in_row_written _ _ p c v (index_known p c k known).0 here there fit

  pub set_sound : Sound (in_row (λ j. get_or row j None)) → Sound (in_row (λ j. get_or (set row k (Some v)) j None))
  set_sound = in_row_sound _ _ p c v (index_known p c k known).0 here there fit

pub none_at : (k : ℕ) → k < 36 → get_or {A = Option Content} (replicate 36 None) k None ≡ None
none_at k h = get_or-replicate {A = Option Content} 36 k None None h
