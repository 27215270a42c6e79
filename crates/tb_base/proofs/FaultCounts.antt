-- The counts of faults after one more name is noted.
use Rattle.std.proofs.Common.{◌≡◌, ◌≢◌, ℕ, ◌+◌, ◌-◌, ◌^◌, min, Bool, cond, List, [], ◌∷◌, ◌++◌, Result, refl, sym, ap, ◌∙◌, arith}
use Rattle.std.specs.List.{count_by}
use Rattle.std.specs.Str.{bytes_eq}
use Rattle.std.proofs.lemmas.Bool.{false_from_ne_true}
use Rattle.std.proofs.lemmas.List.Sums.{fold-append}
use Rattle.std.proofs.lemmas.Slice.Eq.{bytes_eq-Decides}
use Rattle.std.specs.declared.vec.Vec.{Vec}
use Rattle.std.specs.declared.alloc.Global.{Global}
use Rattle.tb_base.specs.FaultNames.{fault_count}
use Rattle.tb_base.specs.Outside.{CountsOnly, LoadHasCause, SaveHasCause}
use Rattle.tb_base.specs.declared.outside.LoadFault.{LoadFault}
use Rattle.tb_base.specs.declared.outside.SaveFault.{SaveFault}

count_by-push : {X : Type 0} (p : X → Bool) (xs : List X) (x : X) → count_by p (xs ++ x ∷ []) ≡ count_by p xs + cond (p x) 1 0
count_by-push p xs x = fold-append _ _ xs (x ∷ [])

count-same : (names : List (List ℕ)) (name : List ℕ) → count_by (λ failed. bytes_eq failed name) (names ++ name ∷ []) ≡ count_by (λ failed. bytes_eq failed name) names + 1
count-same names name =
    count_by-push (λ failed. bytes_eq failed name) names name ∙ ap (λ here. count_by (λ failed. bytes_eq failed name) names + cond here 1 0) ((bytes_eq-Decides name name).1 refl)

count-other : (names : List (List ℕ)) (name other : List ℕ) → other ≢ name → count_by (λ failed. bytes_eq failed other) (names ++ name ∷ []) ≡ count_by (λ failed. bytes_eq failed other) names
count-other names name other h =
    count_by-push (λ failed. bytes_eq failed other) names name ∙ ap (λ here. count_by (λ failed. bytes_eq failed other) names + cond here 1 0) (false_from_ne_true _ (λ e. h (sym ((bytes_eq-Decides name other).0 e)))) ∙ omega arith

CountsOnly-push : (names : List (List ℕ)) (name : List ℕ) → CountsOnly (fault_count names) (fault_count (names ++ name ∷ [])) name
CountsOnly-push names name = record {
  later = omega (arith, count-same names name);
  others = λ other h. ap (λ count. min count (2 ^ 64 - 1)) (count-other names name other h);
}

pub LoadHasCause-push : (names : List (List ℕ)) (name : List ℕ) (result : Result (Vec ℕ Global) LoadFault) → LoadHasCause (fault_count names) (fault_count (names ++ name ∷ [])) name result
LoadHasCause-push names name result = record {
  counts = CountsOnly-push names name;
  failed = λ _. omega (arith, count-same names name);
}

pub SaveHasCause-push : (names : List (List ℕ)) (name : List ℕ) (result : Result (Unit {0}) SaveFault) → SaveHasCause (fault_count names) (fault_count (names ++ name ∷ [])) name result
SaveHasCause-push names name result = record {
  counts = CountsOnly-push names name;
  failed = λ _. omega (arith, count-same names name);
}
