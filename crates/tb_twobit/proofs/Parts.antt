-- What putting a line comes to.
use Rattle.std.proofs.Common.{◌≡◌, ℕ, List, [], ◌++◌, take, Option, Some, None, ◌⊎◌, inl, inr, ap, sym, append-nil}
use Rattle.std.specs.Prelude.{IfSome, Result, Ok, Err}
use Rattle.tb_base.specs.declared.outside.Failed.{Failed}
use Rattle.tb_base.specs.Outside.{PutsSome, PutsAll, HasCause, Rose}
use Rattle.tb_twobit.specs.Sinks.{Sunk, Said}

-- what putting a line comes to
pub said : (s : Sunk) (line : List ℕ) (r : Result (Unit {0}) Failed) → PutsAll s.before s.now line r →
    HasCause s.faults s.faults_now r → Said s line
said s line (Ok u) p h = inl p
said s line (Err e) p h = said_some s.before line p h.failed
  where
    said_some : (before : Option (List ℕ)) (line : List ℕ) →
        IfSome before (λ held. (n : ℕ) × PutsSome held s.now line n) → Rose s.faults s.faults_now →
        IfSome before (λ held. s.now ≡ Some (held ++ line)) ⊎ ((n : ℕ) × IfSome before (λ held. s.now ≡ Some (held ++ take n line)) × Rose s.faults s.faults_now)
    said_some None line p h = inl tt
    said_some (Some held) line p h = inr (p.0, p.1.front, h)

-- a sink that was not touched was given nothing
pub gained_nothing : (held : Option (List ℕ)) → IfSome held (λ bytes. held ≡ Some (bytes ++ []))
gained_nothing None = tt
gained_nothing (Some bytes) = ap Some (sym (append-nil bytes))
