-- What document 01 asks of a verdict determines it.
-- Assumes nothing.
use Rattle.std.specs.Prelude.{◌≡◌, refl, ℕ, suc, ◌-◌, ◌<◌}
use Rattle.std.proofs.Common.{sym, ◌∙◌, ap, true≢false, le_antisymm, le_of_eq, lt_of_le_of_lt, arith}
use Rattle.model.specs.Phase.{Choice, Phases}
use Rattle.model.specs.Tasks.{Each, Tasks}
use Rattle.model.specs.Verdict.{Accepted, Blocked, FirstBlocked, Judged, Refused, Same, Verdict, accepted, by_demand, by_phase, margin, refused}
use Rattle.model.specs.Works.{Works, demand_of}
use Rattle.model.proofs.laws.Choices.{demand_of_mono, least_unique}
use Rattle.model.proofs.laws.Phases.{Laws}

-- two numbers, neither of which is below the other
neither_below : (a b : ℕ) → ¬ (a < b) → ¬ (b < a) → a ≡ b
neither_below a b f g = le_antisymm (omega arith) (omega arith)

module _ (S : Tasks) (P : Phases) (t M : ℕ) where
  not_before : {i j i' j' : ℕ} → FirstBlocked S P t M i j → FirstBlocked S P t M i' j' → ¬ (i < i')
  not_before {i} {j} a b l = true≢false (sym (b.earlier_tasks i l a.above j a.phase) ∙ a.no_room)

  same_phase : {i j j' : ℕ} → FirstBlocked S P t M i j → FirstBlocked S P t M i j' → ¬ (j < j')
  same_phase {i} {j} a b l = true≢false (sym (b.earlier_phases j l) ∙ a.no_room)

  pub first_blocked_unique : {i j i' j' : ℕ} → FirstBlocked S P t M i j → FirstBlocked S P t M i' j' → (i ≡ i') × (j ≡ j')
  first_blocked_unique {i} {j} {i'} {j'} a b =
      let e : i ≡ i' = neither_below i i' (not_before a b) (not_before b a) in
      let a' : FirstBlocked S P t M i' j = rw e at a in
      (e, neither_below j j' (same_phase a' b) (same_phase b a'))

blocked_unique : (S : Tasks) (P : Phases) (x y : Choice) (t : ℕ) → demand_of S P x t ≡ demand_of S P y t
    → {i j i' j' : ℕ} → Blocked S P x t i j → Blocked S P y t i' j' → (i ≡ i') × (j ≡ j')
unfolding margin
blocked_unique S P x y t e (by_demand h) (by_demand g) = (refl, refl)
blocked_unique S P x y t e (by_demand h) (by_phase g f) = absurd (omega arith)
blocked_unique S P x y t e (by_phase h f) (by_demand g) = absurd (omega arith)
blocked_unique S P x y t e (by_phase h f) (by_phase g f') =
    let q = first_blocked_unique S P t (t - demand_of S P y t) (rw e at f) f' in
    (ap suc q.0, ap suc q.1)

module _ (S : Tasks) (P : Phases) (laws : Laws S P) (H : ℕ) where
  same_demand : (x y : Choice) (t : ℕ) → Each S (λ i j. x i j ≡ y i j) → demand_of S P x t ≡ demand_of S P y t
  same_demand x y t e =
      le_antisymm (demand_of_mono S P laws x y t (λ i l d j k. le_of_eq (e i j l k))) (demand_of_mono S P laws y x t (λ i l d j k. le_of_eq (sym (e i j l k))))

  not_both : {x : Choice} {p w d q i j : ℕ} → Accepted S P H x p → Refused S P H w d q i j → ⊥
  not_both {x} {p} {w} a b = b.none x a.least.valid (a.least.good w)

  no_earlier : {w d p i j w' d' p' i' j' : ℕ} → Refused S P H w d p i j → Refused S P H w' d' p' i' j' → ¬ (w < w')
  no_earlier a b l = a.none b.earlier b.earlier_least.valid (λ t c h. b.earlier_least.good t c (lt_of_le_of_lt h l))

  refused_unique : {w d p i j d' p' i' j' : ℕ} → Refused S P H w d p i j → Refused S P H w d' p' i' j' → (d ≡ d') × (p ≡ p') × (i ≡ i') × (j ≡ j')
  refused_unique {w} a b =
      let e = same_demand a.earlier b.earlier w (least_unique S P _ a.earlier b.earlier a.earlier_least b.earlier_least) in
      let q = blocked_unique S P a.earlier b.earlier w e a.blocked b.blocked in
      (a.demanded ∙ e ∙ sym b.demanded, a.examined ∙ sym b.examined, q.0, q.1)

  -- any two verdicts that are as asked are the same
  pub judged_unique : (u v : Verdict) → Judged S P H u → Judged S P H v → Same S u v
  judged_unique (accepted x p) (accepted y q) a b = (least_unique S P (Works S P) x y a.least b.least, a.examined ∙ sym b.examined)
  judged_unique (accepted x p) (refused w d q i j) a b = not_both a b
  judged_unique (refused w d p i j) (accepted y q) a b = not_both b a
  judged_unique (refused w d p i j) (refused w' d' p' i' j') a b =
      let e : w ≡ w' = neither_below w w' (no_earlier a b) (no_earlier b a) in
      let q = refused_unique (rw e at a) b in
      (e, q.0, q.1, q.2, q.3)
