-- THE INVARIANT that keeps every deadline; what it says of deadlines, and its truth at the start.
-- Assumes nothing.
use Rattle.std.specs.Prelude.{ℕ, suc, ◌+◌, ◌-◌, ◌*◌, ◌≤◌, ◌<◌, ◌≡◌, Bool, true, false, cond, leb, eqb}
use Rattle.std.proofs.Common.{sym, ◌∙◌, true≢false, arith, le-leb, eq-eqb, ne_eqb}
use Rattle.std.proofs.Math.Decide.{dec_le}
use Rattle.std.proofs.lemmas.Bool.{lt-leb}
use Rattle.finite.specs.Finite.{sum_to}
use Rattle.finite.proofs.laws.Sums.{sum_member}
use Rattle.model.specs.Demand.{jobs}
use Rattle.promise.proofs.laws.Sound.{Sound}
use Rattle.promise.proofs.laws.View.{Start, Terms, Unchanged, View}

-- the ticks left of task i's piece where it runs, otherwise 0
unfoldable pub slice : View → ℕ → ℕ
slice s i = cond (eqb s.run (suc i)) s.ticks 0

-- What a job asks of the next L ticks: all that is left of it where its deadline falls in them, and otherwise what is left of its piece, which
-- is never set aside.
unfoldable pub asks : Bool → ℕ → ℕ → ℕ → ℕ → ℕ
asks busy left rem slice L = cond busy (cond (leb left L) rem slice) 0

-- what the jobs that are yet to be let in, x ticks after the last release, ask of the next L ticks
unfoldable pub future : Terms → ℕ → ℕ → ℕ → ℕ
future τ x L i = jobs (τ.tasks.T i) (τ.tasks.D i) (L + τ.lag - (τ.tasks.T i + τ.lag - x)) * τ.cost i

unfoldable pub load : Terms → View → ℕ → ℕ → ℕ
load τ s L i = asks (s.busy i) (s.left i) (s.rem i) (slice s i) L + future τ (s.since i) L i

unfoldable pub total : Terms → View → ℕ → ℕ
total τ s L = sum_to τ.tasks.n (load τ s L)

-- a job whose deadline is at most L ticks away
pub record Due (s : View) (L i : ℕ) : Type 0 where
  pub unfinished : s.busy i ≡ true
  pub near : s.left i ≤ L

-- Wherever a deadline falls in the next L ticks, all that is asked of them fits.
abbrev pub Safe : Terms → View → Type 0
Safe τ s = (L i : ℕ) → i < τ.tasks.n → Due s L i → total τ s L ≤ L

-- the same with a tick to spare: after the running piece has used its tick, before time moves on
abbrev pub Spare : Terms → View → Type 0
Spare τ s = (L i : ℕ) → i < τ.tasks.n → Due s L i → total τ s L + 1 ≤ L

pub slice_run : (s : View) (i : ℕ) → s.run ≡ suc i → slice s i ≡ s.ticks
unfolding slice
slice_run s i e = rw (eq-eqb s.run (suc i) e)

pub slice_not : (s : View) (i : ℕ) → (s.run ≡ suc i → ⊥) → slice s i ≡ 0
unfolding slice
slice_not s i e = rw (ne_eqb s.run (suc i) e)

asks_idle : (b : Bool) (l r p L : ℕ) → b ≡ false → asks b l r p L ≡ 0
unfolding asks
asks_idle b l r p L e = rw e

asks_near : (b : Bool) (l r p L : ℕ) → b ≡ true → l ≤ L → asks b l r p L ≡ r
unfolding asks
asks_near b l r p L e h = rw (e, le-leb l L h)

asks_far : (b : Bool) (l r p L : ℕ) → b ≡ true → L < l → asks b l r p L ≡ p
unfolding asks
asks_far b l r p L e h = rw (e, lt-leb l L h)

pub load_idle : (τ : Terms) (s : View) (L i : ℕ) → s.busy i ≡ false → load τ s L i ≡ future τ (s.since i) L i
unfolding load
load_idle τ s L i e = rw (asks_idle (s.busy i) (s.left i) (s.rem i) (slice s i) L e) (omega arith)

pub load_near : (τ : Terms) (s : View) (L i : ℕ) → s.busy i ≡ true → s.left i ≤ L → load τ s L i ≡ s.rem i + future τ (s.since i) L i
unfolding load
load_near τ s L i e h = rw (asks_near (s.busy i) (s.left i) (s.rem i) (slice s i) L e h)

pub load_far : (τ : Terms) (s : View) (L i : ℕ) → s.busy i ≡ true → L < s.left i → load τ s L i ≡ slice s i + future τ (s.since i) L i
unfolding load
load_far τ s L i e h = rw (asks_far (s.busy i) (s.left i) (s.rem i) (slice s i) L e h)

pub load_kept : (τ : Terms) (s s' : View) (L i : ℕ) → Unchanged s s' i → slice s' i ≡ slice s i → load τ s' L i ≡ load τ s L i
unfolding load
load_kept τ s s' L i κ e = cc (κ.busy, κ.left, κ.rem, κ.since, e)

pub slice_kept : (s s' : View) (i : ℕ) → s'.run ≡ s.run → s'.ticks ≡ s.ticks → slice s' i ≡ slice s i
unfolding slice
slice_kept s s' i e f = rw (e, f)

-- ---- what the invariant says of deadlines, and its truth at the start

pub no_late : (τ : Terms) (s : View) (i : ℕ) → Sound τ s → Safe τ s → i < τ.tasks.n → s.busy i ≡ true → 1 ≤ s.left i
unfolding total
no_late τ s i ok safe l b = go (dec_le 1 (s.left i))
  where
    go : Dec (1 ≤ s.left i) → 1 ≤ s.left i
    go (yes h) = h
    go (no h) =
        let due : Due s 0 i = record { unfinished = b; near = omega arith } in
        absurd (omega (arith, safe 0 i l due, sum_member τ.tasks.n (load τ s 0) i l, load_near τ s 0 i b due.near, (ok.pending i l b).some))

pub start_safe : (τ : Terms) (s : View) → Start τ s → Safe τ s
start_safe τ s σ L i l due = absurd (true≢false (sym due.unfinished ∙ σ.idle i l))
