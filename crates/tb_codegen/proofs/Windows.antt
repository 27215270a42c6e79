-- How many instructions stand before the next `proc`: at most the window bound, which is at most the length of the code.
use Rattle.std.proofs.Common.{◌≡◌, ℕ, zero, suc, ◌≤◌, ◌+◌, List, [], ◌∷◌, length, drop, Some, None, slice_get, refl, sym, ap, ◌∙◌, subst, arith}
use Rattle.tb_mac.specs.declared.code.Instr.{Instr}
use Rattle.tb_mac.specs.declared.code.Instr.TheVariants.{Proc}
use Rattle.tb_mac.specs.Bounds.{before_proc, longest_procedure, window_bound}

-- an instruction that is no `proc`
abbrev pub IsPlain : Instr → Type 0
IsPlain (Proc x) = ⊥
IsPlain i = Unit {0}

-- how many instructions stand from one on before the next `proc`
abbrev pub left : List Instr → ℕ → ℕ
left code k = before_proc (drop k code)

none-some : {i : Instr} → None ≡ Some i → ⊥
none-some e = cc

some-same : {i j : Instr} → Some i ≡ Some j → i ≡ j
some-same e = cc

window-tail : (i : Instr) (is : List Instr) → window_bound is ≤ window_bound (i ∷ is)
window-tail (Proc x) is = omega arith
window-tail _ is = omega arith

pub left-within : (code : List Instr) (k : ℕ) → left code k ≤ window_bound code
left-within [] zero = omega arith
left-within [] (suc k) = omega arith
left-within (i ∷ is) zero = omega arith
left-within (i ∷ is) (suc k) = let h = left-within is k in let t = window-tail i is in omega (arith, h, t)

pub plain-first : (i : Instr) (is : List Instr) → IsPlain i → before_proc (i ∷ is) ≡ suc (before_proc is)
plain-first (Proc x) is h = absurd h
plain-first _ is h = refl

-- behind an instruction that is no `proc` there are fewer
pub left-behind : (code : List Instr) (k : ℕ) (i : Instr) → slice_get code k ≡ Some i → IsPlain i → left code k ≡ suc (left code (k + 1))
left-behind [] k i e h = absurd (none-some e)
left-behind (j ∷ is) zero i e h = plain-first j is (subst IsPlain (sym (some-same e)) h)
left-behind (j ∷ is) (suc k) i e h =
    let z : suc (k + 1) ≡ suc k + 1 = omega arith in left-behind is k i e h ∙ ap (λ n. suc (left (j ∷ is) n)) z

pub left-proc : (code : List Instr) (k x : ℕ) → slice_get code k ≡ Some (Proc x) → left code k ≡ 0
left-proc [] k x e = absurd (none-some e)
left-proc (j ∷ is) zero x e = ap (λ i. before_proc (i ∷ is)) (some-same e)
left-proc (j ∷ is) (suc k) x e = left-proc is k x e

-- each window is as long as the code at most
before-length : (code : List Instr) → before_proc code ≤ length code
before-length [] = omega arith
before-length (Proc x ∷ is) = omega arith
before-length (_ ∷ is) = let h = before-length is in omega (arith, h)

longest-length : (code : List Instr) → longest_procedure code ≤ length code
longest-length [] = omega arith
longest-length (Proc x ∷ is) = let h = before-length is in let g = longest-length is in omega (arith, h, g)
longest-length (_ ∷ is) = let g = longest-length is in omega (arith, g)

pub window-length : (code : List Instr) → window_bound code ≤ length code
window-length code = let h = before-length code in let g = longest-length code in omega (arith, h, g)
