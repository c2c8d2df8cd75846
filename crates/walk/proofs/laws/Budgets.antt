-- The budgets of the tasks that are due are settled one by one, and added up.
-- Assumes nothing.
use Rattle.std.specs.Prelude.{◌≡◌, refl, Bool, true, false, not, ◌&&◌, List, ℕ, ◌+◌, ◌≤◌, ◌<◌, length, get_or, set}
use Rattle.std.proofs.Common.{sym, ap, ◌∙◌, arith, length-set, get_or-set_other, get_or-set_same, eq-eqb, ne_eqb}
use Rattle.std.proofs.Math.Decide.{ℕ_discrete}
use Rattle.std.proofs.lemmas.List.{set-get_or}
use Rattle.finite.specs.Finite.{sum_to}
use Rattle.std.specs.Prelude.{if◌then◌else◌}
use Rattle.finite.proofs.laws.Sums.{sum_but_at, sum_cong, sum_zero}
use Rattle.std.proofs.lemmas.Bool.{cond-false}
use Rattle.model.specs.Arrays.{Arrays, as_tasks}
use Rattle.model.specs.Ranges.{tasks_most}
use Rattle.pieces.specs.Bounds.{budget_most}
use Rattle.pieces.specs.Task.{Roomy}
use Rattle.pieces.specs.laws.Sums.{sum_most}
use Rattle.pieces.specs.laws.Task.{budget_at_most}
use Rattle.walk.specs.Budgets.{AddedUp, BeforeSum, Settles, added_most, budget_at, cut_at, least_budget, settled, where_due}
use Rattle.walk.specs.Deadlines.{Mapped}
use Rattle.walk.specs.declared.points.Known.{Known}
use Rattle.walk.specs.Masks.{BitPut, FirstOf, OthersOf}
use Rattle.finite.specs.Masks.{bit}
use Rattle.walk.proofs.laws.Deadlines.{cond_cases}
use Rattle.walk.proofs.laws.Masks.{bit_none}
use Rattle.walk.proofs.laws.Stuck.{not_both}

-- ---- one task

-- what is settled at t, and what is not
settled_now : (t d new old : ℕ) → d ≡ t → settled t d new old ≡ new
settled_now t d new old e = simp (eq-eqb d t e)

pub settled_other : (t d new old : ℕ) → (d ≡ t → ⊥) → settled t d new old ≡ old
settled_other t d new old ne = simp (ne_eqb d t ne)

-- a task that is due: for the first time, and later
pub settles_first : {a : Arrays} {t low i b : ℕ} {k k' : Known} → get_or a.deadline i 0 ≡ t → b ≡ least_budget a low i → k' ≡ record k { budget = set k.budget i b; cuts = set k.cuts i low } → Settles a t low i k k' b
settles_first {a} {t} {low} {i} {b} {k} now eb ek =
    rw ek
    (record {
      next = refl;
      budget = refl;
      cuts = ap (set k.cuts i) (sym (settled_now t _ low (get_or k.cuts i 0) now));
      is = eb ∙ sym (settled_now t _ (least_budget a low i) (get_or k.budget i 0) now);
    })

pub settles_again : {a : Arrays} {t low i : ℕ} {k : Known} → (get_or a.deadline i 0 ≡ t → ⊥) → Settles a t low i k k (get_or k.budget i 0)
settles_again {a} {t} {low} {i} {k} later =
    record {
      next = refl;
      budget = sym (set-get_or k.budget i 0);
      cuts = sym (ap (set k.cuts i) (settled_other t _ low (get_or k.cuts i 0) later) ∙ set-get_or k.cuts i 0);
      is = sym (settled_other t _ (least_budget a low i) (get_or k.budget i 0) later);
    }

-- ---- one task more is due

-- due' is due and task i
pub record OneMore (i : ℕ) (due due' : ℕ → Bool) : Type 0 where
  pub was : due i ≡ false
  pub now : due' i ≡ true
  pub others : (k : ℕ) → (k ≡ i → ⊥) → due' k ≡ due k

-- an array, whose place i is put through f too
mapped_put : {i v : ℕ} (f : ℕ → ℕ → ℕ) {due due' : ℕ → Bool} (xs ys : List ℕ) → OneMore i due due' → i < length ys → i < tasks_most → Mapped tasks_most (where_due due f) xs ys → v ≡ f i (get_or ys i 0)
    → Mapped tasks_most (where_due due' f) xs (set ys i v)
mapped_put {i} {v} f {due} {due'} xs ys more li l m e =
    record { same = length-set ys i v ∙ m.same; below = λ k lk. below k lk (ℕ_discrete k i); beyond = λ k lk. get_or-set_other ys i k v 0 (omega arith) ∙ m.beyond k lk }
  where
    old : get_or ys i 0 ≡ get_or xs i 0
    old = m.below i l ∙ ap (λ (b : Bool). if b then f i (get_or xs i 0) else get_or xs i 0) more.was

    below : (k : ℕ) → k < tasks_most → Dec (k ≡ i) → get_or (set ys i v) k 0 ≡ where_due due' f k (get_or xs k 0)
    below k lk (yes q) = rw (q, get_or-set_same ys i v 0 li, more.now, e, old)
    below k lk (no q) = get_or-set_other ys i k v 0 q ∙ rw (more.others k q) (m.below k lk)

-- a sum with one term more
sum_put : (n j b : ℕ) (f g : ℕ → ℕ) → j < n → f j ≡ 0 → g j ≡ b → ((i : ℕ) → (i ≡ j → ⊥) → g i ≡ f i) → sum_to n g ≡ sum_to n f + b
sum_put n j b f g l ef eg others =
    omega
    (arith, sum_but_at n f g j b 0 l (omega arith) (λ i m ne. omega (arith, others i ne)), sum_but_at n g f j 0 b l (omega arith) (λ i m ne. omega (arith, others i ne)))

module _ {a : Arrays} {t low : ℕ} where
  -- no task is due
  added_none : {due : ℕ → Bool} (k : Known) → ((i : ℕ) → due i ≡ false) → AddedUp a t low due k k 0
  added_none k none =
      record {
        next = refl;
        budget = record { same = refl; below = λ i l. rw (none i); beyond = λ i l. refl };
        cuts = record { same = refl; below = λ i l. rw (none i); beyond = λ i l. refl };
        sum = sym (sum_zero tasks_most _ (λ i l. rw (none i)));
      }

  module _ {due : ℕ → Bool} {k k' : Known} {added : ℕ} (m : AddedUp a t low due k k' added) where
    -- task i is due too
    added_more : {due' : ℕ → Bool} {i b : ℕ} {k'' : Known} → OneMore i due due' → i < tasks_most → i < length k'.budget → i < length k'.cuts → Settles a t low i k' k'' b → AddedUp a t low due' k k'' (added + b)
    added_more {due'} {i} {b} {k''} more l lb lm s =
        record {
          next = s.next ∙ m.next;
          budget = rw s.budget (mapped_put (budget_at a t low) k.budget k'.budget more lb l m.budget s.is);
          cuts = rw s.cuts (mapped_put (cut_at a t low) k.cuts k'.cuts more lm l m.cuts refl);
          sum = ap (λ (x : ℕ). x + b) m.sum ∙ sym (sum_put tasks_most i b _ _ l (rw more.was) (rw (more.now, s.budget) (get_or-set_same k'.budget i b 0 lb)) terms);
        }
      where
        terms : (j : ℕ) → (j ≡ i → ⊥) → (if due' j then get_or k''.budget j 0 else 0) ≡ (if due j then get_or k'.budget j 0 else 0)
        terms j ne = rw (more.others j ne, s.budget, get_or-set_other k'.budget i j b 0 ne)

    -- the same tasks in other words
    pub added_alike : {due' : ℕ → Bool} → ((i : ℕ) → due' i ≡ due i) → AddedUp a t low due' k k' added
    added_alike e =
        record {
          next = m.next;
          budget = record { same = m.budget.same; below = λ i l. rw (e i) (m.budget.below i l); beyond = m.budget.beyond };
          cuts = record { same = m.cuts.same; below = λ i l. rw (e i) (m.cuts.below i l); beyond = m.cuts.beyond };
          sum = m.sum ∙ sum_cong tasks_most _ _ (λ i l. rw (e i));
        }

-- ---- bounds

module _ {a : Arrays} {t low : ℕ} {due : ℕ → Bool} {k : Known} (r : BeforeSum a t low due k) where
  -- a budget stays bounded
  budget_bounded : (i : ℕ) → i < tasks_most → due i ≡ true → budget_at a t low i (get_or k.budget i 0) ≤ budget_most
  budget_bounded i l d =
      cond_cases (λ v. v ≤ budget_most) (get_or a.deadline i 0) t _ _
      (λ e. budget_at_most (as_tasks a) i low (r.roomy i l d e))
      (λ ne. r.bounded i l d)

  -- so does the sum over some of the tasks that are due
  pub added_at_most : {due' : ℕ → Bool} {k' : Known} {added : ℕ} → ((i : ℕ) → due' i ≡ true → due i ≡ true) → AddedUp a t low due' k k' added → added ≤ added_most
  added_at_most {due'} {k'} {added} some m =
      omega (arith, m.sum, sum_most tasks_most budget_most _ (λ i l. each i l (due' i) refl))
    where
      each : (i : ℕ) → i < tasks_most → (d : Bool) → due' i ≡ d → (if d then get_or k'.budget i 0 else 0) ≤ budget_most
      each i l true e = rw (m.budget.below i l, e) (budget_bounded i l (some i e))
      each i l false e = omega arith

-- ---- the loop over the tasks of a mask

-- task i of the mask is not among the rest
unfoldable pub is_added : ℕ → ℕ → ℕ → Bool
is_added mask rest i = bit mask i && not (bit rest i)

is_added_marked : (x y : Bool) → (x && not y) ≡ true → x ≡ true
is_added_marked true y e = refl
is_added_marked false y e = e

is_added_not : (x : Bool) → (x && not x) ≡ false
is_added_not true = refl
is_added_not false = refl

is_added_of : (mask rest i : ℕ) → is_added mask rest i ≡ true → bit mask i ≡ true
unfolding is_added
is_added_of mask rest i e = is_added_marked (bit mask i) (bit rest i) e

is_added_none : (mask i : ℕ) → is_added mask mask i ≡ false
unfolding is_added
is_added_none mask i = is_added_not (bit mask i)

is_added_all : (mask i : ℕ) → bit mask i ≡ is_added mask 0 i
unfolding is_added
is_added_all mask i = go (bit mask i) (bit 0 i) (bit_none i)
  where
    go : (x y : Bool) → y ≡ false → x ≡ (x && not y)
    go true y e = rw e
    go false y e = refl

is_added_rest : (mask rest first : ℕ) → bit rest first ≡ true → is_added mask rest first ≡ false
unfolding is_added
is_added_rest mask rest first e = rw e (go (bit mask first))
  where
    go : (x : Bool) → (x && not true) ≡ false
    go true = refl
    go false = refl

is_added_more : (mask : ℕ) {rest first others : ℕ} → bit mask first ≡ true → bit rest first ≡ true → BitPut first false rest others → OneMore first (is_added mask rest) (is_added mask others)
unfolding is_added
is_added_more mask {rest} {first} {others} e f s = record { was = rw (e, f); now = rw (e, s.here); others = λ k ne. rw (s.elsewhere k ne) }

-- what the loop keeps: the tasks of the mask that are not among the rest are added up
pub record AddingUp (a : Arrays) (t low mask : ℕ) (k : Known) (rest : ℕ) (k' : Known) (added : ℕ) : Type 0 where
  pub ready : BeforeSum a t low (bit mask) k
  pub within : (i : ℕ) → bit rest i ≡ true → bit mask i ≡ true
  pub so_far : AddedUp a t low (is_added mask rest) k k' added

pub adding_none : {a : Arrays} {t low mask : ℕ} {k : Known} → BeforeSum a t low (bit mask) k → AddingUp a t low mask k mask k 0
adding_none {a} {t} {low} {mask} {k} r = record { ready = r; within = λ i e. e; so_far = added_none k (is_added_none mask) }

module _ {a : Arrays} {t low mask : ℕ} {k : Known} {rest : ℕ} {k' : Known} {added : ℕ} (so : AddingUp a t low mask k rest k' added) where
  module _ {first : ℕ} (f : FirstOf rest first) where
    -- the first of the rest is due
    due : bit mask first ≡ true
    due = so.within first f.marked

    -- what is asked of it
    pub adding_room : (first < tasks_most) × (get_or a.deadline first 0 ≡ t → Roomy (as_tasks a) low first)
    adding_room = (f.place, so.ready.roomy first f.place due)

    module _ {k'' : Known} {b : ℕ} (e : Settles a t low first k' k'' b) where
      -- nothing wraps
      pub adding_fits : added + b ≤ added_most + budget_most
      adding_fits =
          let old : get_or k'.budget first 0 ≡ get_or k.budget first 0 = so.so_far.budget.below first f.place ∙ cond-false (is_added mask rest first) _ _ (is_added_rest mask rest first f.marked) in
          let small : b ≤ budget_most = rw (e.is, old) (budget_bounded so.ready first f.place due) in
          omega (arith, added_at_most so.ready (is_added_of mask rest) so.so_far)

      -- it is added up
      pub adding_more : length k'.budget ≡ 32 → length k'.cuts ≡ 32 → {others : ℕ} → OthersOf rest others → AddingUp a t low mask k others k'' (added + b)
      adding_more budget_long cuts_long {others} o =
          let put : BitPut first false rest others = rw f.is o.without in
          record {
            ready = so.ready;
            within = λ i m. still put i m (ℕ_discrete i first);
            so_far =
                added_more so.so_far (is_added_more mask due f.marked put) f.place
                (omega (arith, f.place, budget_long)) (omega (arith, f.place, cuts_long)) e;
          }
        where
          still : BitPut first false rest others → (i : ℕ) → bit others i ≡ true → Dec (i ≡ first) → bit mask i ≡ true
          still put i m (yes q) = absurd (not_both (rw q at m) put.here)
          still put i m (no q) = so.within i (sym (put.elsewhere i q) ∙ m)

  -- no task is left
  pub adding_all : rest ≡ 0 → AddedUp a t low (bit mask) k k' added
  adding_all e = added_alike (rw e at so.so_far) (is_added_all mask)
