-- A task's counts are a part of the array. Assumes nothing.
use Rattle.std.proofs.Common.{ℕ, ◌+◌, ◌-◌, ◌≤◌, ◌≡◌, sym, ap, ◌∙◌, List, [], ◌∷◌, ◌++◌, length, get_or, take, drop, length-take-le, length-drop, arith}
use Rattle.std.proofs.lemmas.List.{get_or-drop, get_or-take}
use Rattle.finite.specs.Finite.{list_to}
use Rattle.finite.proofs.laws.Lists.{list_alike, list_of}
use Rattle.answer.specs.Answer.{task_numbers}

part : (xs : List ℕ) (first many : ℕ) → first + many ≤ length xs → take (first + many - first) (drop first xs) ≡ list_to many (λ j. get_or xs (first + j) 0)
part xs first many h =
    let size : first + many - first ≡ many = omega arith in
    let long : length (take many (drop first xs)) ≡ many = length-take-le many (drop first xs) (omega (arith, length-drop first xs)) in
    rw size (
    sym (list_of many (take many (drop first xs)) 0 long)
    ∙ list_alike many (λ j. get_or (take many (drop first xs)) j 0) (λ j. get_or xs (first + j) 0)
    (λ j l. get_or-take many (drop first xs) j 0 l ∙ get_or-drop first xs j 0)
    )

pub its_numbers : (counts : List ℕ) (first phases longest : ℕ) → first + phases ≤ length counts
    → take (first + phases - first) (drop first counts) ++ (longest ∷ []) ≡ task_numbers counts first phases longest
its_numbers counts first phases longest h = ap (λ (l : List ℕ). l ++ (longest ∷ [])) (part counts first phases h)
