-- What stands somewhere still does after an instruction, under names that change.
use Rattle.std.proofs.Common.{◌≡◌, refl, sym, ◌∙◌, subst, ap, ℕ, suc, ◌<◌, inl, inr, ⊎_elim, List, [], ◌∷◌, length, Option, Some, None, slice_set}
use Rattle.tb_semantics.specs.Graph.{IsIn}
use Rattle.tb_core.specs.Store.{Value}
use Rattle.tb_ir.specs.AnfTree.{AnfTree}
use Rattle.tb_ir.specs.AnfMachine.{AnfFrames}
use Rattle.tb_ir.specs.Machine.{Env, Empty, Item, gather, lookup}
use Rattle.tb_mac.specs.declared.word.Word.{Word}
use Rattle.tb_mac.specs.Frames.{Frame as MacFrame}
use Rattle.tb_codegen.specs.Notes.{Spot, Reg, Slot, Symbol, Entry, Stands, Note}
use Rattle.tb_codegen.proofs.Changes.{deeper, From, Given, g_const, g_new, g_var, g_deep, Into, IsFirst, is_first, IsNew, is_new, NoSlots, Same, same, StandsAt, stands_at, Under, u_const, u_own, u_waits, u_deep}
use Rattle.tb_codegen.proofs.Envs.{get-set, get-set-other, lookup-gather, lookup-other, lookup-same}
use Rattle.tb_codegen.proofs.Rel.{FsRel, f_none, f_then, f_top, Grows, Holds, Means, m_name, WRel, w_fix, w_char, w_false, w_true, w_nil, w_unspecified, w_undefined, w_end, w_at, World, Saved, env_at, meaning, read}

-- a world that grows
pub w-more : (w z : World) → Grows w z → (u : Word) (v : Value) → WRel w u v → WRel z u v
w-more w z g u v (w_fix n) = w_fix n
w-more w z g u v (w_char n) = w_char n
w-more w z g u v w_false = w_false
w-more w z g u v w_true = w_true
w-more w z g u v w_nil = w_nil
w-more w z g u v w_unspecified = w_unspecified
w-more w z g u v w_undefined = w_undefined
w-more w z g u v w_end = w_end
w-more w z g u v (w_at i) = w_at (g _ i)

pub saved-more : (w z : World) → Grows w z → (rs : List Env) (slots : List Word) (map : List Entry) → Saved w rs slots map → Saved z rs slots map
saved-more w z g rs slots map h = record {
  saved = λ q s i. ⊎_elim inl (λ k.
      let a = k.2 in
      inr (k.0, k.1, record { value = a.value; word = a.word; means = a.means; here = a.here; rel = w-more w z g _ _ a.rel })) (h.saved q s i);
}

pub fs-more : (p : AnfTree) (notes : List Note) (w z : World) → Grows w z → (fs : AnfFrames) (ms : List MacFrame) → FsRel p notes w fs ms → FsRel p notes z fs ms
fs-more p notes w z g fs ms f_none = f_none
fs-more p notes w z g fs ms (f_then x k l r n j e s h) = f_then x k l r n j e (saved-more w z g _ _ _ s) (fs-more p notes w z g _ _ h)
fs-more p notes w z g fs ms (f_top k n e s) = f_top k n e (saved-more w z g _ _ _ s)

read_other : (q : Spot) (regs slots : List Word) (d : ℕ) (u v : Word) → (Reg d ≡ q → ⊥) → read q regs slots ≡ Some v → read q (slice_set regs d u) slots ≡ Some v
read_other (Reg a) regs slots d u v ne e = get-set-other regs d a v u (λ q. ne (ap Reg (sym q))) e
read_other (Slot i) regs slots d u v ne e = e

read_slot : (q : Spot) (regs slots : List Word) (d : ℕ) (u v : Word) → (Slot d ≡ q → ⊥) → read q regs slots ≡ Some v → read q regs (slice_set slots d u) ≡ Some v
read_slot (Reg a) regs slots d u v ne e = e
read_slot (Slot i) regs slots d u v ne e = get-set-other slots d i v u (λ q. ne (ap Slot (sym q))) e

read_none : (q : Spot) (regs slots : List Word) (v : Word) → read q regs [] ≡ Some v → read q regs slots ≡ Some v
read_none (Reg a) regs slots v e = e
read_none (Slot i) regs slots v e = cc

read_register : (q : Spot) (regs slots : List Word) (v : Word) → ((i : ℕ) → q ≡ Slot i → ⊥) → read q regs slots ≡ Some v → read q regs [] ≡ Some v
read_register (Reg a) regs slots v ne e = e
read_register (Slot i) regs slots v ne e = absurd (ne i refl)

-- names change as the store does
module _ (p : AnfTree) (st st2 : List Item) where
  abbrev pub Changes : (Symbol → Symbol → Type 0) → List Env → List Env → Type 0
  Changes C rs qs = (o s : Symbol) (x : Value) → C o s → Means p st rs o x → Means p st2 qs s x

  -- what a word that is put somewhere is
  abbrev pub Puts : (Symbol → Type 0) → World → Word → List Env → Type 0
  Puts V z u qs = (s : Symbol) → V s → (v : Value) × Means p st2 qs s v × WRel z u v

  holds_put : (w z : World) → Grows w z → (rs qs : List Env) (regs slots regs2 slots2 : List Word) (a : Spot)
      (V : Symbol → Type 0) (C : Symbol → Symbol → Type 0) (new old : List Entry) (u : Word) → read a regs2 slots2 ≡ Some u →
      ((q : Spot) (v : Word) → (a ≡ q → ⊥) → read q regs slots ≡ Some v → read q regs2 slots2 ≡ Some v) →
      Holds p st w rs regs slots old → Into a V C new old → Puts V z u qs → Changes C rs qs → Holds p st2 z qs regs2 slots2 new
  holds_put w z g rs qs regs slots regs2 slots2 a V C new old u put others h n fv fc =
      record {
        holds = λ q s i. ⊎_elim
            (λ k. let t = fv s k.1 in record { value = t.0; word = u; means = t.1; here = subst (λ a. read a regs2 slots2 ≡ Some u) (sym k.0) put; rel = t.2 })
            (λ k.
            let o = k.1 in
            let has = h.holds q o.0 o.1 in
            record { value = has.value; word = has.word; means = fc o.0 s has.value o.2 has.means; here = others q has.word k.0 has.here; rel = w-more w z g _ _ has.rel })
            (n.into q s i);
      }

  -- a register is written
  pub holds-into : (w z : World) → Grows w z → (rs qs : List Env) (regs slots : List Word) (d : ℕ) (V : Symbol → Type 0)
      (C : Symbol → Symbol → Type 0) (new old : List Entry) (u : Word) → d < length regs → Holds p st w rs regs slots old →
      Into (Reg d) V C new old → Puts V z u qs → Changes C rs qs → Holds p st2 z qs (slice_set regs d u) slots new
  holds-into w z g rs qs regs slots d V C new old u lt h n fv fc =
      holds_put w z g rs qs regs slots (slice_set regs d u) slots (Reg d) V C new old u (get-set regs d u lt) (λ q v ne e. read_other q regs slots d u v ne e) h n fv fc

  -- a slot is written
  pub holds-slot : (w : World) → (rs qs : List Env) (regs slots : List Word) (d : ℕ) (V : Symbol → Type 0)
      (C : Symbol → Symbol → Type 0) (new old : List Entry) (u : Word) → d < length slots → Holds p st w rs regs slots old →
      Into (Slot d) V C new old → Puts V w u qs → Changes C rs qs → Holds p st2 w qs regs (slice_set slots d u) new
  holds-slot w rs qs regs slots d V C new old u lt h n fv fc =
      holds_put w w (λ k i. i) rs qs regs slots regs (slice_set slots d u) (Slot d) V C new old u (get-set slots d u lt) (λ q v ne e. read_slot q regs slots d u v ne e) h n fv fc

  -- names alone change
  pub holds-from : (w z : World) → Grows w z → (rs qs : List Env) (regs slots : List Word) (C : Symbol → Symbol → Type 0) (new old : List Entry) →
      Holds p st w rs regs slots old → From C new old → Changes C rs qs → Holds p st2 z qs regs slots new
  holds-from w z g rs qs regs slots C new old h n fc =
      record {
        holds = λ q s i.
            let o = n.from q s i in
            let has = h.holds q o.0 o.1 in
            record { value = has.value; word = has.word; means = fc o.0 s has.value o.2 has.means; here = has.here; rel = w-more w z g _ _ has.rel };
      }

  -- the changes: to the operation of a block, and from a value to a block
  abbrev pub pushed : Option (List ℕ) → Env → List Env → List Env
  pushed None r rs = rs
  pushed (Some ys) r rs = gather ys r ∷ rs

  deep_at : (o : Option (List ℕ)) (a r : Env) (rs : List Env) (d y : ℕ) →
      lookup (env_at (a ∷ pushed o r rs) (deeper o (suc d))) y ≡ lookup (env_at (r ∷ rs) (suc d)) y
  deep_at None a r rs d y = refl
  deep_at (Some ys) a r rs d y = refl

  -- what is named under an operation is named before
  pub under_name : (o : Option (List ℕ)) (xs : List ℕ) (r a : Env) (rs : List Env) (z s : Symbol) (x : Value) →
      ((y : ℕ) → IsIn y xs → lookup a y ≡ lookup r y) → Under o xs z s → Means p st (r ∷ rs) z x → meaning (a ∷ pushed o r rs) s ≡ Some x
  under_name o xs r a rs z s x f (u_const c) (m_name e) = e
  under_name o xs r a rs z s x f (u_own y i) (m_name e) = f y i ∙ e
  under_name o xs r a rs z s x f (u_waits y ys q i) (m_name e) = subst (λ o. lookup (env_at (a ∷ pushed o r rs) 1) y ≡ Some x) (sym q) (lookup-gather ys r y i ∙ e)
  under_name o xs r a rs z s x f (u_deep d y) (m_name e) = deep_at o a r rs d y ∙ e

  pub under : (o : Option (List ℕ)) (xs zs : List ℕ) (r a : Env) (rs : List Env) → ((y : ℕ) → IsIn y xs → lookup a y ≡ lookup r y) →
      Changes (Under o xs) (r ∷ rs) (a ∷ pushed o r rs)
  under o xs zs r a rs f z s x u m = m_name (under_name o xs r a rs z s x f u m)

  pub given : (x : ℕ) (xs : List ℕ) (v : Value) (r : Env) (rs : List Env) →
      Changes (Given x xs) (Env.Bind 0 v Empty ∷ (r ∷ rs)) (gather xs (Env.Bind x v r) ∷ rs)
  given x xs v r rs o s a (g_const c) (m_name e) = m_name e
  given x xs v r rs o s a (g_new i) (m_name e) = m_name (lookup-gather xs (Env.Bind x v r) x i ∙ lookup-same x v r ∙ e)
  given x xs v r rs o s a (g_var y ne i) (m_name e) = m_name (lookup-gather xs (Env.Bind x v r) y i ∙ lookup-other x y v r ne ∙ e)
  given x xs v r rs o s a (g_deep d y) (m_name e) = m_name e

pub same-means : (p : AnfTree) (st : List Item) (rs : List Env) → Changes p st st Same rs rs
same-means p st rs o s x (same z) e = e

-- a word is put elsewhere
pub moved : (p : AnfTree) (w : World) (rs : List Env) (regs slots : List Word) (old : List Entry) (q : Spot) (u : Word) (st : List Item) →
    Holds p st w rs regs slots old → read q regs slots ≡ Some u → Puts p st st (StandsAt q old) w u rs
moved p w rs regs slots old q u st h e s (stands_at i) =
    let k = h.holds q s i in
    let same_word : k.word ≡ u = cc (k.here, e) in
    (k.value, k.means, subst (λ x. WRel w x k.value) same_word k.rel)

-- the value itself
pub first-put : (p : AnfTree) (st : List Item) (w : World) (u : Word) (v : Value) (rs : List Env) → WRel w u v → Puts p st st IsFirst w u (Env.Bind 0 v Empty ∷ rs)
first-put p st w u v rs r s is_first = (v, m_name refl, r)

pub new-put : (p : AnfTree) (st : List Item) (w : World) (u : Word) (x : ℕ) (xs : List ℕ) (v : Value) (r : Env) (rs : List Env) → WRel w u v →
    Puts p st st (IsNew x xs) w u (gather xs (Env.Bind x v r) ∷ rs)
new-put p st w u x xs v r rs uv s (is_new i) = (v, m_name (lookup-gather xs (Env.Bind x v r) x i ∙ lookup-same x v r), uv)

pub holds-none : (p : AnfTree) (st : List Item) (w : World) (rs : List Env) (regs slots : List Word) (map : List Entry) → NoSlots map →
    Holds p st w rs regs slots map → Holds p st w rs regs [] map
holds-none p st w rs regs slots map ns h = record {
  holds = λ q s i.
      let k = h.holds q s i in
      record { value = k.value; word = k.word; means = k.means; here = read_register q regs slots k.word (λ j e. ns.no_slots j s (subst (λ q. IsIn (Stands q s) map) e i)) k.here; rel = k.rel };
}

pub holds-any : (p : AnfTree) (st : List Item) (w : World) (rs : List Env) (regs slots : List Word) (map : List Entry) →
    Holds p st w rs regs [] map → Holds p st w rs regs slots map
holds-any p st w rs regs slots map h = record {
  holds = λ q s i.
      let k = h.holds q s i in
      record { value = k.value; word = k.word; means = k.means; here = read_none q regs slots k.word k.here; rel = k.rel };
}
