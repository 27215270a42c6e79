-- The items of a program can be assembled.
use Rattle.std.proofs.Common.{◌≡◌, ℕ, zero, suc, ◌+◌, ◌<◌, ◌≤◌, ◌^◌, ◌==◌, Bool, true, false, cond, List, [], ◌∷◌, ◌++◌, length, map, Option, Some, None, slice_get, All, refl, sym, ap, ◌∙◌, subst, inl, inr, eqb-true, zero-add, arith}
use Rattle.tb_prim.specs.declared.place.Place.{Place}
use Rattle.tb_semantics.specs.Graph.{IsIn}
use Rattle.tb_ir.specs.AnfTree.{AnfTree, ProcTree}
use Rattle.tb_ir.specs.AnfRules.{KeepsRules, forms_of, lambdas_of}
use Rattle.tb_ir.specs.AnfWidth.{width_of}
use Rattle.tb_mac.specs.declared.code.Instr.{Instr}
use Rattle.tb_mac.specs.declared.code.Instr.TheVariants as I
use Rattle.tb_mac.specs.declared.code.LambdaEntry.{LambdaEntry}
use Rattle.tb_mac.specs.Assemble.{EntryStands, ItemOk, ItemsOk, instructions, number_of, stands_at, with_target}
use Rattle.tb_codegen.specs.Fits.{Fits}
use Rattle.tb_codegen.specs.Generate.{code_forms, code_lambdas, labels_within, noted_items}
use Rattle.tb_codegen.specs.Notes.{ToTop, AtValue, Away, Inside, Note, AtProc, AtLifted, Noted, Mark, Does}
use Rattle.tb_codegen.specs.PlainCode.{entries, parts_of}
use Rattle.tb_codegen.proofs.AllFields.{all-good}
use Rattle.tb_codegen.proofs.Assembling.{items_of, label-note, note_at, notes_of}
use Rattle.tb_codegen.proofs.Chains.{Chain}
use Rattle.tb_codegen.proofs.Following.{follows}
use Rattle.tb_codegen.proofs.Labels.{labels-apart}
use Rattle.tb_codegen.proofs.Ok.{Ok, ok_proc, ok_lifted}
use Rattle.tb_codegen.proofs.Procs.{lambda-at}
use Rattle.tb_codegen.proofs.Programs.{entry_mark, mark-of, program-ok}
use Rattle.tb_codegen.proofs.Ranges.{AllGood, small-map}
use Rattle.tb_codegen.proofs.WholeChains.{program-chain}

none-some : {X : Type 0} {x : X} → None ≡ Some x → ⊥
none-some e = cc

some-same : {X : Type 0} {x y : X} → Some x ≡ Some y → x ≡ y
some-same e = cc

-- each item keeps the rules of its fields, its map and its place
items-good : (p : AnfTree) (w : ℕ) (narrow : w ≤ 1000) (is : List Noted) → AllGood p w narrow is → All (ItemOk (parts_of p)) (items_of is)
items-good p w narrow [] h k d lt = absurd (omega (arith, lt))
items-good p w narrow (Mark l n ∷ is) h zero d lt = tt
items-good p w narrow (Mark l n ∷ is) h (suc k) d lt = items-good p w narrow is h k d (omega (arith, lt))
items-good p w narrow (Does i n q ∷ is) h zero d lt = (h.0.field_ok, small-map n h.0.map_ok, h.0.place_ok)
items-good p w narrow (Does i n q ∷ is) h (suc k) d lt = items-good p w narrow is h.1 k d (omega (arith, lt))

-- as many notes as instructions
notes-length : (a : ℕ → ℕ) (is : List Noted) → length (notes_of a is) ≡ length (instructions (items_of is))
notes-length a [] = refl
notes-length a (Mark l n ∷ is) = notes-length a is
notes-length a (Does i n q ∷ is) = ap suc (notes-length a is)

get-within : {X : Type 0} (xs : List X) (k : ℕ) (x : X) → slice_get xs k ≡ Some x → k < length xs
get-within [] k x e = absurd (none-some e)
get-within (y ∷ xs) zero x e = omega arith
get-within (y ∷ xs) (suc k) x e = let h = get-within xs k x e in omega (arith, h)

-- a label that stands somewhere is that of a mark
marked : (l base at : ℕ) (is : List Noted) → stands_at l base (items_of is) ≡ Some at → (n : Note) × IsIn (Mark l n) is
marked l base at [] e = absurd (none-some e)
marked l base at (Does i n q ∷ is) e = let r = marked l (suc base) at is e in (r.0, inr r.1)
marked l base at (Mark m n ∷ is) e = by (m == l) refl e (λ f. marked l base at is f)
  where
    by : (b : Bool) → (m == l) ≡ b → cond b (Some base) (stands_at l base (items_of is)) ≡ Some at →
        (stands_at l base (items_of is) ≡ Some at → (k : Note) × IsIn (Mark l k) is) → (k : Note) × IsIn (Mark l k) (Mark m n ∷ is)
    by true f g so = (n, inl (ap (λ j. Mark j n) (eqb-true m l f)))
    by false f g so = let r = so g in (r.0, inr r.1)

-- the entry of a lambda is its `proc`
entry-proc : (p : AnfTree) (T F : ℕ → Note → Type 0) (n : ℕ) (q : ProcTree) (a : ℕ → ℕ) (b : Bool) (es : _) (i : Instr) (pl : Option Place) (o : Option Note) →
    Ok p T F i pl (note_at a (cond b (AtLifted n es) (AtProc n))) o → i ≡ I.Proc n
entry-proc p T F n q a true es i pl o (ok_lifted m r s lf st f) = refl
entry-proc p T F n q a false es i pl o (ok_proc m r en) = refl

-- an instruction that is a `proc` was one before labels became numbers
proc-before : (to : ℕ → ℕ) (is : List Instr) (k n : ℕ) → slice_get (map (with_target to) is) k ≡ Some (I.Proc n) → slice_get is k ≡ Some (I.Proc n)
proc-before to [] k n e = absurd (none-some e)
proc-before to (i ∷ is) (suc k) n e = proc-before to is k n e
proc-before to (i ∷ is) zero n e = ap Some (by i (some-same e))
  where
    set-proc : {x m : ℕ} {X : Type 0} → I.SetRtn x ≡ I.Proc m → X
    set-proc f = cc

    jump-proc : {x m : ℕ} {X : Type 0} → I.Jump x ≡ I.Proc m → X
    jump-proc f = cc

    brf-proc : {a x m : ℕ} {X : Type 0} → I.Brf a x ≡ I.Proc m → X
    brf-proc f = cc

    clo-proc : {a b x m : ℕ} {X : Type 0} → I.Clo a b x ≡ I.Proc m → X
    clo-proc f = cc

    by : (j : Instr) → with_target to j ≡ I.Proc n → j ≡ I.Proc n
    by (I.SetRtn x) f = set-proc f
    by (I.Jump x) f = jump-proc f
    by (I.Brf a x) f = brf-proc f
    by (I.Clo a b x) f = clo-proc f
    by j f = f

-- the entries of lambdas are their numbers
entry-number : (n : ℕ) (qs : List ProcTree) (k : ℕ) (l : LambdaEntry) → slice_get (entries n qs) k ≡ Some l → l.entry ≡ n + k
entry-number n [] k l e = absurd (none-some e)
entry-number n (q ∷ qs) zero l e = ap (λ (m : LambdaEntry). m.entry) (sym (some-same e)) ∙ omega arith
entry-number n (q ∷ qs) (suc k) l e = let h = entry-number (suc n) qs k l e in omega (arith, h)

-- a lambda with that number
record Parted (qs : List ProcTree) (k : ℕ) : Type 0 where
  front : List ProcTree
  here : ProcTree
  rest : List ProcTree
  same : qs ≡ front ++ here ∷ rest
  long : length front ≡ k

parted : (qs : List ProcTree) (n k : ℕ) (l : LambdaEntry) → slice_get (entries n qs) k ≡ Some l → Parted qs k
parted [] n k l e = absurd (none-some e)
parted (q ∷ qs) n zero l e = record { front = []; here = q; rest = qs; same = refl; long = refl }
parted (q ∷ qs) n (suc k) l e =
    let s = parted qs (suc n) k l e in record { front = q ∷ s.front; here = s.here; rest = s.rest; same = ap (λ rs. q ∷ rs) s.same; long = ap suc s.long }

instructions-append : (is js : List Noted) → length (instructions (items_of (is ++ js))) ≡ length (instructions (items_of is)) + length (instructions (items_of js))
instructions-append [] js = omega arith
instructions-append (Mark l n ∷ is) js = instructions-append is js
instructions-append (Does i n q ∷ is) js = let h = instructions-append is js in omega (arith, h)

module _ (p : AnfTree) (rules : KeepsRules p) (fits : Fits p) where
  abbrev is : List Noted
  is = noted_items p

  abbrev to : ℕ → ℕ
  to = number_of (items_of is)

  chain : Chain p is [] (Some (Inside (AtValue (ToTop 0)) Away [])) is None
  chain = program-chain p (program-ok p rules fits)

  -- where a label stands is the note of its mark
  label-at : (l at : ℕ) (n : Note) → IsIn (Mark l n) is → stands_at l 0 (items_of is) ≡ Some at → slice_get (notes_of to is) at ≡ Some (note_at to n)
  label-at l at n i e =
      let r = label-note p is to 0 (Some (Inside (AtValue (ToTop 0)) Away [])) is l n chain i (labels-apart p) in
      let z : r.0 ≡ at = sym (zero-add r.0) ∙ some-same (sym r.1 ∙ e) in
      subst (λ k. slice_get (notes_of to is) k ≡ Some (note_at to n)) z r.2

  before : (l at : ℕ) → stands_at l 0 (items_of is) ≡ Some at → at < length (instructions (items_of is))
  before l at e =
      let m = marked l 0 at is e in
      let w = get-within (notes_of to is) at (note_at to m.0) (label-at l at m.0 m.1 e) in
      let z = notes-length to is in
      omega (arith, w, z)

  entry-stands : (n : ℕ) (l : LambdaEntry) → slice_get (entries 0 (lambdas_of p)) n ≡ Some l → EntryStands (items_of is) n l
  entry-stands n l e at stands =
      let s = parted (lambdas_of p) 0 n l e in
      let number : l.entry ≡ n = entry-number 0 (lambdas_of p) n l e ∙ zero-add n in
      let found = (lambda-at p rules s.front s.rest s.here s.same).0 in
      at_entry s.here (subst (λ k. IsIn (entry_mark p k s.here) is) s.long (mark-of p rules fits (length s.front) s.here found))
      (subst (λ k. stands_at k 0 (items_of is) ≡ Some at) number stands)
    where
      at_entry : (q : ProcTree) → IsIn (entry_mark p n q) is → stands_at n 0 (items_of is) ≡ Some at → slice_get (instructions (items_of is)) at ≡ Some (I.Proc n)
      at_entry q i f =
          let g = label-at n at _ i f in
          let step = (follows p rules fits).each at _ g in
          let same = entry-proc p _ _ n q to q.lifted _ step.0 _ _ step.2.1 in
          proc-before to (instructions (items_of is)) at n (step.1 ∙ ap Some same)

  some-instruction : 1 ≤ length (instructions (items_of is))
  some-instruction =
      let l = length (lambdas_of p) in
      let last = code_lambdas p 0 (lambdas_of p) (l + labels_within (forms_of p)) in
      let h = instructions-append (code_forms p 0 (forms_of p) l) (Does I.End (Inside (AtValue (ToTop (length (forms_of p)))) Away []) None ∷ last) in
      omega (arith, h)

  pub items-ok : length (instructions (items_of is)) < 2 ^ 24 → ItemsOk (parts_of p) (items_of is)
  items-ok few = record {
    parts_ok = fits.parts;
    items_ok = items-good p (width_of p) fits.narrow is (all-good p rules fits fits.narrow);
    some = some-instruction;
    few = few;
    labels_before = before;
    entries = entry-stands;
  }
