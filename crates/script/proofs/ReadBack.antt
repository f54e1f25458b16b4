-- What is written down reads back.
use Rattle.std.proofs.Common.{◌≡◌, ℕ, ◌^◌, ◌<◌, true, false, eqb, List, [], ◌∷◌, ◌++◌, map, length, Some, None, codes, decimal, Option, refl, ap, ◌∙◌, append-nil, arith, rules}
use Rattle.script.proofs.Figures.{number_is}
use Rattle.script.proofs.Splits.{filled_first}
use Rattle.agreement.specs.declared.call.Call.TheVariants.{Again, Crash, Deliver, Look, Lose, Propose, Recover}
use Rattle.script.specs.Calls.{LineCall, cut, cut_number, epoch, lone_number, named_call}
use Rattle.script.specs.Commands.{command}
use Rattle.script.specs.Laws.{AllSmall, ReadAs, ReadBack, Small, cut_words, epoch_word, spaced}
use Rattle.script.specs.Rows.{beyond, entries, row_of}
use Rattle.script.specs.Words.{filled, number, onto, pieces, read_on, words}
use Rattle.std.proofs.lemmas.Fmt.{decimal_nonempty, digits_decimal, digits_value-decimal}
use Rattle.std.proofs.lemmas.Str.Parse.{IsNumeralModel, numerals_by_fold, tells_all_ascii_digits}
use Rattle.std.proofs.lemmas.Bool.{and_parts, lt-ltb}
use Rattle.std.specs.Char.{is_ascii_digit}
use Rattle.std.specs.Option.{option_map}
use Rattle.std.specs.Str.{all_ascii_digits, bytes_eq}

-- a word: bytes that are no blanks, and one at least
abbrev Blankless : List ℕ → Type 0
Blankless [] = Unit {0}
Blankless (b ∷ bs) = (eqb b 32 ≡ false) × Blankless bs

abbrev Word : List ℕ → Type 0
Word w = (0 < length w) × Blankless w

abbrev AllWords : List (List ℕ) → Type 0
AllWords [] = Unit {0}
AllWords (w ∷ ws) = Word w × AllWords ws

pieces_alone : (w : List ℕ) → Blankless w → pieces w ≡ w ∷ []
pieces_alone [] h = refl
pieces_alone (b ∷ w) h = rw h.0 (ap (onto b) (pieces_alone w h.1))

pieces_more : (w rest : List ℕ) → Blankless w → pieces (w ++ 32 ∷ rest) ≡ w ∷ pieces rest
pieces_more [] rest h = refl
pieces_more (b ∷ w) rest h = rw h.0 (ap (onto b) (pieces_more w rest h.1))

words_spaced : (w : List ℕ) (ws : List (List ℕ)) → Word w → AllWords ws → words (w ++ spaced ws) ≡ w ∷ ws
words_spaced w [] h all = ap words (append-nil w) ∙ ap filled (pieces_alone w h.1) ∙ filled_first w [] h.0
words_spaced w (v ∷ vs) h all =
    ap filled (pieces_more w (v ++ spaced vs) h.1) ∙ filled_first w (pieces (v ++ spaced vs)) h.0
    ∙ ap (λ us. w ∷ us) (words_spaced v vs all.0 all.1)

-- the figures of a number are such a word, and read back as the number
own : IsNumeralModel (λ ds. all_ascii_digits ds ≡ true) (read_on 0)
own = numerals_by_fold _ tells_all_ascii_digits read_on (search rules)

digit_no_blank : (b : ℕ) → is_ascii_digit b ≡ true → eqb b 32 ≡ false
digit_no_blank b e = search rules

blankless : (ds : List ℕ) → all_ascii_digits ds ≡ true → Blankless ds
blankless [] e = tt
blankless (b ∷ ds) e = let p = and_parts (is_ascii_digit b) (all_ascii_digits ds) e in (digit_no_blank b p.0, blankless ds p.1)

module _ (n : ℕ) (h : n < 2 ^ 32) where
  fits : n < 2 ^ 64
  fits = omega arith

  number_word : Word (decimal n)
  number_word = (decimal_nonempty n fits, blankless (decimal n) (digits_decimal own n fits))

  number_back : number (decimal n) ≡ Some n
  number_back =
      let v : read_on 0 (decimal n) ≡ n = digits_value-decimal own n fits in
      let d : all_ascii_digits (decimal n) ≡ true = digits_decimal own n fits in
      number_is (decimal n) (decimal_nonempty n fits) ∙ rw (d, v) (rw (lt-ltb n (2 ^ 32) h) refl)

-- a cut reads back
cut_all_words : (k : Option ℕ) → Small k → AllWords (cut_words k)
cut_all_words None h = tt
cut_all_words (Some k) h = ((omega arith, (refl, (refl, (refl, tt)))), (number_word k h, tt))

lone_back : (n : ℕ) → n < 2 ^ 32 → lone_number (decimal n ∷ []) ≡ Some n
lone_back n h = rw (number_back n h) refl

cut_back : (k : Option ℕ) → Small k → cut (cut_words k) ≡ Some k
cut_back None h = refl
cut_back (Some k) h = rw (lone_back k h) refl

cut_number_back : (n : ℕ) (k : Option ℕ) → n < 2 ^ 32 → Small k → cut_number (decimal n ∷ cut_words k) ≡ Some (n, k)
cut_number_back n k h s = rw (number_back n h) (rw (cut_back k s) refl)

-- a list reads back
no_dash : (ds : List ℕ) → all_ascii_digits ds ≡ true → 0 < length ds → bytes_eq ds (codes "-") ≡ false
no_dash [] e h = absurd (omega arith)
no_dash (b ∷ ds) e h =
    let p = and_parts (is_ascii_digit b) (all_ascii_digits ds) e in
    let n : eqb b 45 ≡ false = search rules in
    rw n refl

epoch_back : (x : Option ℕ) → Small x → epoch (epoch_word x) ≡ Some x
epoch_back None h = refl
epoch_back (Some n) h = rw (no_dash (decimal n) (digits_decimal own n (fits n h)) (decimal_nonempty n (fits n h))) (rw (number_back n h) refl)

epoch_is_word : (x : Option ℕ) → Small x → Word (epoch_word x)
epoch_is_word None h = (omega arith, (refl, tt))
epoch_is_word (Some n) h = number_word n h

list_all_words : (xs : List (Option ℕ)) (k : Option ℕ) → AllSmall xs → Small k → AllWords (map epoch_word xs ++ cut_words k)
list_all_words [] k all s = cut_all_words k s
list_all_words (x ∷ xs) k all s = (epoch_is_word x all.0, list_all_words xs k all.1 s)

entries_none : (k : Option ℕ) → (entries epoch (cut_words k) ≡ []) × (beyond epoch (cut_words k) ≡ cut_words k)
entries_none None = (refl, refl)
entries_none (Some k) = (refl, refl)

entries_back : (xs : List (Option ℕ)) (k : Option ℕ) → AllSmall xs → entries epoch (map epoch_word xs ++ cut_words k) ≡ xs
entries_back [] k all = (entries_none k).0
entries_back (x ∷ xs) k all = rw (epoch_back x all.0) (ap (λ ys. x ∷ ys) (entries_back xs k all.1))

beyond_back : (xs : List (Option ℕ)) (k : Option ℕ) → AllSmall xs → beyond epoch (map epoch_word xs ++ cut_words k) ≡ cut_words k
beyond_back [] k all = (entries_none k).1
beyond_back (x ∷ xs) k all = rw (epoch_back x all.0) (beyond_back xs k all.1)

-- and so does every call: one of a number and a cut, and one of a number alone
module _ (name : List ℕ) (word : Word name) where
  line_back : (ws : List (List ℕ)) (call : LineCall) → AllWords ws → named_call name ws ≡ Some call → ReadAs name ws call
  line_back ws call all e = ap command (words_spaced name ws word all) ∙ rw e refl

  cut_call_back : (call : ℕ → Option ℕ → LineCall) → ((ws : List (List ℕ)) → named_call name ws ≡ option_map (λ v. call v.0 v.1) (cut_number ws)) →
      (p : ℕ) (k : Option ℕ) → p < 2 ^ 32 → Small k → ReadAs name (decimal p ∷ cut_words k) (call p k)
  cut_call_back call e p k h s =
      line_back (decimal p ∷ cut_words k) (call p k) (number_word p h, cut_all_words k s)
      (e (decimal p ∷ cut_words k) ∙ ap (option_map (λ v. call v.0 v.1)) (cut_number_back p k h s))

  lone_call_back : (call : ℕ → LineCall) → ((ws : List (List ℕ)) → named_call name ws ≡ option_map call (lone_number ws)) →
      (p : ℕ) → p < 2 ^ 32 → ReadAs name (decimal p ∷ []) (call p)
  lone_call_back call e p h =
      line_back (decimal p ∷ []) (call p) (number_word p h, tt) (e (decimal p ∷ []) ∙ ap (option_map call) (lone_back p h))

pub read_back : ReadBack
read_back = record {
  recover = cut_call_back (codes "recover") (omega arith, search rules) Recover (λ ws. refl);
  propose = λ p v k h i s.
      line_back (codes "propose") (omega arith, search rules) (decimal p ∷ decimal v ∷ cut_words k) (Propose p v k)
      (number_word p h, (number_word v i, cut_all_words k s)) (rw (number_back p h) (rw (cut_number_back v k i s) refl));
  look = λ p xs k h all s.
      line_back (codes "look") (omega arith, search rules) (decimal p ∷ (map epoch_word xs ++ cut_words k)) (Look p (row_of None xs) k)
      (number_word p h, list_all_words xs k all s)
      (rw (number_back p h) (rw (beyond_back xs k all) (rw (cut_back k s) (rw (entries_back xs k all) refl))));
  deliver = cut_call_back (codes "deliver") (omega arith, search rules) Deliver (λ ws. refl);
  again = cut_call_back (codes "again") (omega arith, search rules) Again (λ ws. refl);
  lose = lone_call_back (codes "lose") (omega arith, search rules) Lose (λ ws. refl);
  crash = lone_call_back (codes "crash") (omega arith, search rules) Crash (λ ws. refl);
}
