-- DEMAND 3 for the dispatcher's record: any series of ticks that keep their promise, from the ready record of a table that may be started with, keeps demand 3.
-- Assumes nothing.
use Rattle.std.specs.Prelude.{◌≡◌, refl, Bool, true, false, ◌&&◌, eqb}
use Rattle.std.proofs.Common.{sym, ◌∙◌, subst, arith, le-ltb}
use Rattle.std.proofs.Math.Path.{ap}
use Prim.Native.Nat.{ℕ, zero, suc, ◌%◌, ◌^◌, ◌≤◌, ◌<◌}
use Rattle.std.proofs.Math.Decide.{dec_lt}
use Rattle.std.proofs.Math.Nat.{div-eq_of_lt, pow-le-pow_right}
use Rattle.finite.specs.Masks.{bit, mask_of}
use Rattle.finite.proofs.laws.Masks.{bit_mask_of, mask_of_lt}
use Rattle.records.specs.Ranges.{usable}
use Rattle.records.specs.Record.{record_of, request_of}
use Rattle.records.specs.Held.{Held, HeldInRange, held_for}
use Rattle.records.specs.Start.{Startable, ready_record}
use Rattle.dispatch.specs.Tick.{Ticks, answer_for, answer_in, record_after, rules_answer}
use Rattle.dispatch.specs.declared.Answer as code
use Rattle.records.specs.declared.Dispatcher.{Dispatcher}
use Rattle.dispatch.specs.laws.Reads.{table_ranged}
use Rattle.records.proofs.laws.Recorded.{read_as, usable_is}
use Rattle.model.specs.Phase.{Choice}
use Rattle.model.specs.Tasks.{Sane, Tasks}
use Rattle.promise.specs.History.{answer_at, record_at}
use Rattle.promise.specs.Promise.{Kept}
use Rattle.promise.specs.Rules.{Answer, Request, State, admit, answer_of, lets_in, pick, tick}
use Rattle.promise.proofs.laws.Answers.{answer_lets}
use Rattle.promise.proofs.laws.Kept.{kept}
use Rattle.promise.proofs.laws.Range.{Range, initial_range, tick_range}
use Rattle.promise.proofs.laws.Remaining.{Proper}
use Rattle.promise.proofs.laws.Ticking.{proper}

-- ---- a table's record in a state that the rules keep
module _ (h : Held) (held : HeldInRange h) (s : State) (range : Range h.table s) (good : Proper h.table h.counts s) where
  abbrev e : Dispatcher
  e = record_of h s

  pub record_after_lem : (q : Request) → record_after (usable e) q ≡ record_of h (tick h.table h.counts q s)
  record_after_lem q = ap (λ (z : Dispatcher). record_after z q) (usable_is h held s range good) ∙ read_as h held s range (λ h s. record_of h (tick h.table h.counts q s))

  pub rules_answer_lem : (q : Request) → rules_answer (usable e) q ≡ answer_of h.table h.counts q s
  rules_answer_lem q = ap (λ (z : Dispatcher). rules_answer z q) (usable_is h held s range good) ∙ read_as h held s range (λ h s. answer_of h.table h.counts q s)

-- ---- an answer, written and read back

-- a number below 2 ^ 32 has no bit from 32 on
no_bit : (m i : ℕ) → m < 2 ^ 32 → 32 ≤ i → bit m i ≡ false
no_bit m i l h =
    let more : 2 ^ 32 ≤ 2 ^ i = pow-le-pow_right (omega arith) h in
    ap (λ z. eqb (z % 2) 1) (div-eq_of_lt {n = m} {m = 2 ^ i} (omega arith))

bits_of : (p : ℕ → Bool) → ((i : ℕ) → 32 ≤ i → p i ≡ false) → (i : ℕ) → bit (mask_of 32 p) i ≡ p i
bits_of p h i = go (dec_lt i 32)
  where
    go : Dec (i < 32) → bit (mask_of 32 p) i ≡ p i
    go (yes l) = bit_mask_of 32 p i l
    go (no l) = no_bit (mask_of 32 p) i (mask_of_lt 32 p) (omega arith) ∙ sym (h i (omega arith))

-- nobody is let in who does not exist
not_let_in : (S : Tasks) (s : State) (mask : ℕ → Bool) (i : ℕ) → S.n ≤ i → lets_in S s mask i ≡ false
unfolding lets_in
not_let_in S s mask i h = none (mask i) _ _ (le-ltb i S.n h)
  where
    none : (a b c : Bool) {v : Bool} → v ≡ false → (a && v && b && c) ≡ false
    none true b c q = rw q
    none false b c q = refl

answer_read : (S : Tasks) (x : Choice) (s : State) (mask : ℕ) (flag : Bool) → S.n ≤ 32
    → answer_in (answer_for mask (answer_of S x (request_of mask flag) s)) ≡ answer_of S x (request_of mask flag) s
answer_read S x s mask flag few =
    let a : Answer = answer_of S x (request_of mask flag) s in
    let p : State = pick S x (admit S (bit mask) s) in
    let none : (i : ℕ) → 32 ≤ i → a.let_in i ≡ false =
    λ i h. answer_lets S x (lets_in S s (bit mask)) flag p p.run i ∙ not_let_in S s (bit mask) i (omega arith) in
    λ k. record { let_in = λ i. bits_of a.let_in none i k; ran = a.ran; phase = a.phase; piece = a.piece; ended = a.ended; finished = a.finished }

-- ---- demand 3
module _ (S : Tasks) (x : Choice) (may : Startable S x) (d : ℕ → Dispatcher) (mask : ℕ → ℕ) (flag : ℕ → Bool) (r : ℕ → code.Answer)
    (begins : d 0 ≡ ready_record S x) (ticks : (t : ℕ) → Ticks (d t) (mask t) (flag t) (d (suc t)) (r t)) where
  abbrev h : Held
  h = held_for S x

  abbrev held : HeldInRange h
  held = may.held

  abbrev ask : ℕ → Request
  ask t = request_of (mask t) (flag t)

  abbrev at : ℕ → State
  at = record_at S x ask

  sane : Sane S
  sane = record {
    some_task = may.some_task;
    D_least = λ i l. (held.table.task i l).deadline_least;
    D_most = λ i l. (held.table.task i l).deadline_most;
    some_phase = λ i l. (held.table.task i l).phases_least;
    some_work = λ i j l k. (held.table.phase i j l k).work_least;
  }

  good : (t : ℕ) → Proper S x (at t)
  good = proper S x (table_ranged h held) ask

  ranges : (t : ℕ) → Range S (at t)
  unfolding record_at
  ranges zero = initial_range S x (table_ranged h held)
  ranges (suc t) = tick_range S x (table_ranged h held) (ask t) (at t) (good t) (ranges t)

  -- the record before tick t is that of the rules
  pub record_is : (t : ℕ) → d t ≡ record_of h (at t)
  unfolding record_at
  record_is zero = begins
  record_is (suc t) =
      (ticks t).moved ∙ ap (λ (z : Dispatcher). record_after (usable z) (ask t)) (record_is t) ∙ record_after_lem h held (at t) (ranges t) (good t) (ask t)

  -- and its answer that of the rules
  pub answer_is : (t : ℕ) → answer_in (r t) ≡ answer_at S x ask t
  unfolding answer_at
  answer_is t =
      ap answer_in (ticks t).answered ∙
      ap (λ (z : Dispatcher). answer_in (answer_for (mask t) (rules_answer (usable z) (ask t)))) (record_is t) ∙
      ap (λ (a : Answer). answer_in (answer_for (mask t) a)) (rules_answer_lem h held (at t) (ranges t) (good t) (ask t)) ∙
      answer_read S x (at t) (mask t) (flag t) held.table.tasks

  pub record_kept : Kept S x ask (λ t. answer_in (r t))
  record_kept =
      subst (Kept S x ask) (λ k t. sym (answer_is t) k)
      (kept S sane x (λ i j l k. held.counts.count_least i j l k) (λ i j l k. held.counts.count_most i j l k) may.works ask)
