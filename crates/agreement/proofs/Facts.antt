-- What holds at every moment of a run, told with the votes cast so far: `V q v s` says that (v, s) has stood in q's pair cell.
--
use Rattle.std.proofs.Common.{◌≡◌, ℕ, suc, ◌<◌, ◌≤◌, Bool, true, T, ◌⊎◌, List, [], ◌∷◌, get_or, Some, None, Option}
use Rattle.quorum.specs.Laws.{has}
use Rattle.store.specs.declared.content.Content.{Content}
use Rattle.store.specs.Cells.{Cells, put}
use Rattle.process.specs.declared.message.Kind.{Kind}
use Rattle.process.specs.declared.message.Message.{Message}
use Rattle.process.specs.declared.memory.Action.{Action}
use Rattle.process.specs.declared.memory.Action.TheVariants.{Write, Send}
use Rattle.tray.specs.declared.kinds.Estimate.{Estimate}
use Rattle.process.specs.declared.memory.Memory.{Memory}
use Rattle.process.specs.declared.memory.Phase.{Phase}
use Rattle.process.specs.Phases.{is_active}
use Rattle.process.specs.Rounds.{Step, coordinator}
use Rattle.agreement.specs.Promise.{Holds, Marked}
use Rattle.store.specs.declared.content.CellName.{CellName}
use Rattle.store.specs.CellNames.{cell_number}

-- a rule by what it means
pub record Rule : Type 0 where
  pub size : ℕ
  pub enough : List Bool → Bool

abbrev pub Votes : Type 1
Votes = ℕ → ℕ → ℕ → Type 0

abbrev pub plus : Votes → ℕ → ℕ → ℕ → Votes
plus V p v r q w s = V q w s ⊎ ((q ≡ p) × (w ≡ v) × (s ≡ r))

abbrev pub number_in : Option Content → ℕ
number_in None = 0
number_in (Some x) = x.number

abbrev pub stamp_in : Option Content → ℕ
stamp_in None = 0
stamp_in (Some x) = x.stamp

abbrev pub rnd : Cells → ℕ → ℕ
rnd C q = number_in (C q 2)

abbrev pub Known : Cells → ℕ → Type 0
Known C v = (q : ℕ) × Holds (C q 1) v

-- how votes and cells may grow
pub record Grows (V : Votes) (C : Cells) (W : Votes) (D : Cells) : Type 0 where
  pub votes : (q v s : ℕ) → V q v s → W q v s
  pub rounds : (q : ℕ) → rnd C q ≤ rnd D q
  pub newer : (q v s : ℕ) → W q v s → V q v s ⊎ (rnd C q ≤ s)
  pub proposals : (q v : ℕ) → Holds (C q 1) v → Holds (D q 1) v

-- q's estimate (v, s) for round r: below r it has cast no vote of a greater stamp, and will cast none
pub record Offer (V : Votes) (C : Cells) (q r v s : ℕ) : Type 0 where
  pub early : s < r
  pub cast : (s ≡ 0) ⊎ V q v s
  pub gap : (w u : ℕ) → V q w u → (u ≤ s) ⊎ (r ≤ u)
  pub reached : r ≤ rnd C q
  pub known : Known C v

module _ (R : Rule) where
  abbrev pub coord : ℕ → ℕ
  coord r = coordinator R.size r

  -- no reading but v can ever have enough votes of stamp r
  pub record Safe (V : Votes) (C : Cells) (v r : ℕ) : Type 0 where
    pub quorum : List Bool
    pub full : R.enough quorum ≡ true
    pub past : (k : ℕ) → has quorum k ≡ true → r < rnd C (suc k)
    pub agree : (k w : ℕ) → has quorum k ≡ true → V (suc k) w r → w ≡ v

  -- v has enough votes of one stamp
  pub record Chosen (V : Votes) (v : ℕ) : Type 0 where
    pub stamp : ℕ
    pub quorum : List Bool
    pub full : R.enough quorum ≡ true
    pub voted : (k : ℕ) → has quorum k ≡ true → (w : ℕ) × V (suc k) w stamp
    pub voter : ℕ
    pub vote : V voter v stamp

  abbrev pub GoodAs : Votes → Cells → Kind → Message → Type 0
  GoodAs V C Kind.NewRound m = Unit {0}
  GoodAs V C Kind.Estimate m = Offer V C m.sender m.round m.reading m.stamp
  GoodAs V C Kind.NewEstimate m = V (coord m.round) m.reading m.round
  GoodAs V C Kind.Ack m = (w : ℕ) × V m.sender w m.round
  GoodAs V C Kind.Decide m = Chosen V m.reading

  abbrev pub Good : Votes → Cells → Message → Type 0
  Good V C m = GoodAs V C m.kind m

  -- of the votes and the cells
  pub record Sound (V : Votes) (C : Cells) : Type 0 where
    pub own : (q v s : ℕ) → V q v s → V (coord s) v s
    pub one : (p q v w s : ℕ) → V p v s → V q w s → v ≡ w
    pub least : (q v s : ℕ) → V q v s → 1 ≤ s
    pub shown : (q v s : ℕ) → Marked (C q 3) v s → V q v s
    pub top : (q v s : ℕ) → V q v s → s ≤ stamp_in (C q 3)
    pub bound : (q v s : ℕ) → V q v s → s ≤ rnd C q
    pub safe : (q v s u : ℕ) → V q v s → u < s → Safe V C v u
    pub known : (q v s : ℕ) → V q v s → Known C v
    pub settled : (q v : ℕ) → Holds (C q 4) v → Chosen V v
    pub silent : (q : ℕ) → C q 1 ≡ None → rnd C q ≡ 0
    pub rounds : (q r : ℕ) → Holds (C q 2) r → 1 ≤ r

  -- what an action of p asks, and what it makes of votes and cells
  pub record MayEnter (C : Cells) (p r : ℕ) : Type 0 where
    pub up : rnd C p ≤ r
    pub least : 1 ≤ r
    pub has : C p 1 ≡ None → ⊥

  pub record MayVote (V : Votes) (C : Cells) (p v r : ℕ) : Type 0 where
    pub here : rnd C p ≡ r
    pub least : 1 ≤ r
    pub known : Known C v
    pub backed : V (coord r) v r ⊎ ((p ≡ coord r) × ((q w : ℕ) → V q w r → ⊥))
    pub safe : (u : ℕ) → u < r → Safe V C v u

  abbrev pub MayWrite : Votes → Cells → ℕ → Content → CellName → Type 0
  MayWrite V C p x CellName.Proposal = C p 1 ≡ None
  MayWrite V C p x CellName.Round = MayEnter C p x.number
  MayWrite V C p x CellName.Pair = MayVote V C p x.number x.stamp
  MayWrite V C p x CellName.Decision = Chosen V x.number

  abbrev pub May : Votes → Cells → ℕ → Action → Type 0
  May V C p (Write c x) = MayWrite V C p x c
  May V C p (Send m) = Good V C m

  -- of the memory of a process that is up: its round is its round cell, its reading and stamp are its latest vote or a proposal and 0
  pub record Stand (V : Votes) (C : Cells) (p r e t : ℕ) : Type 0 where
    pub round : rnd C p ≡ r
    pub least : 1 ≤ r
    pub cast : (t ≡ 0) ⊎ V p e t
    pub top : (v s : ℕ) → V p v s → s ≤ t
    pub known : Known C e

  abbrev pub Role : ℕ → Phase → ℕ → ℕ → Type 0
  Role p Phase.Idle r t = Unit {0}
  Role p Phase.Waiting r t = Unit {0}
  Role p Phase.Acked r t = Unit {0}
  Role p Phase.Gathering r t = (p ≡ coord r) × (t < r)
  Role p Phase.Confirming r t = (p ≡ coord r) × (t ≡ r)
  Role p Phase.Done r t = Unit {0}

  -- at the place i stands the estimate of process i + 1
  abbrev pub Offers : Votes → Cells → ℕ → List (Option Estimate) → Type 0
  Offers V C r kept = (i : ℕ) (e : Estimate) → get_or kept i None ≡ Some e → Offer V C (suc i) r e.reading e.stamp

  abbrev pub Voters : Votes → ℕ → List Bool → Type 0
  Voters V r acks = (i : ℕ) → has acks i ≡ true → (w : ℕ) × V (suc i) w r

  pub record Active (V : Votes) (C : Cells) (p : ℕ) (f : Phase) (r e t : ℕ) (kept : List (Option Estimate)) (acks : List Bool) : Type 0 where
    pub stand : Stand V C p r e t
    pub offers : Offers V C r kept
    pub voters : Voters V r acks
    pub role : Role p f r t

  abbrev pub Lasting : Votes → Cells → List (Option Message) → Type 0
  Lasting V C last = (i : ℕ) (m : Message) → get_or last i None ≡ Some m → Good V C m

  pub record Fine (V : Votes) (C : Cells) (p : ℕ) (μ : Memory) : Type 0 where
    pub last : Lasting V C μ.last
    pub busy : T (is_active μ.phase) → Active V C p μ.phase μ.round μ.reading μ.stamp μ.kept μ.acknowledgers

  abbrev pub votes_by : CellName → Votes → ℕ → Content → Votes
  votes_by CellName.Proposal V p x = V
  votes_by CellName.Round V p x = V
  votes_by CellName.Pair V p x = plus V p x.number x.stamp
  votes_by CellName.Decision V p x = V

  abbrev pub votes_after : Votes → ℕ → Action → Votes
  votes_after V p (Write c x) = votes_by c V p x
  votes_after V p (Send m) = V

  abbrev pub cells_after : Cells → ℕ → Action → Cells
  cells_after C p (Write c x) = put C p (cell_number c) x
  cells_after C p (Send m) = C

  -- the actions may be done one after the other, and P holds after the last
  abbrev pub Run : (Votes → Cells → Type 0) → ℕ → List Action → Votes → Cells → Type 0
  Run P p [] V C = P V C
  Run P p (a ∷ acts) V C =
      May V C p a × (Sound (votes_after V p a) (cells_after C p a) → Grows V C (votes_after V p a) (cells_after C p a) → Run P p acts (votes_after V p a) (cells_after C p a))

  abbrev pub Goes : Votes → Cells → ℕ → Step → Type 0
  Goes V C p s = Run (λ W D. Fine W D p s.memory) p s.acts V C
