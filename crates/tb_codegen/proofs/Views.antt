-- What an operand is to the primitives: a constant, or an object or procedure with its words.
use Rattle.std.proofs.Common.{◌≡◌, refl, sym, subst, ℕ, suc, arith, ◌+◌, ◌<◌, ◌^◌, Bool, false, List, length, Some, None, slice_get}
use Rattle.tb_semantics.specs.Graph.{IsIn}
use Rattle.tb_core.specs.Store.{Value, At, Truth, Nil, Unspecified, Undefined, EndObject, Object, Pair, Vec, Str, Sym, Content, Holds, Procedure, Other}
use Rattle.tb_core.specs.Effects as E
use Rattle.tb_ir.specs.AnfTree.{AnfTree}
use Rattle.tb_ir.specs.Machine.{Item, Obj, contents}
use Rattle.tb_mac.specs.declared.word.Word.{Word}
use Rattle.tb_mac.specs.declared.word.Word.TheVariants as W
use Rattle.tb_mac.specs.Effects.{Heap, object_at, pair_at}
use Rattle.tb_mac.specs.Objects.{cell_kind, pair_tag, procedure_kind, procedure_tag, string_kind, string_tag, symbol_kind, vector_kind, vector_tag}
use Rattle.tb_codegen.specs.Notes.{Note}
use Rattle.tb_codegen.proofs.Calls.{Kind, k_at, k_data, kind_of}
use Rattle.tb_codegen.proofs.Rel.{BytesAt, Closed, Lk, ORel, o_cell, o_pair, o_vector, o_string, o_symbol, o_procedure, PRel, p_full, p_none, Stores, Whole, World, WRel, tag_of}

pub data View (w : World) (heap : List Word) (st : List Item) : Word → Value → Type 0 where
  x_data : {u : Word} {v : Value} → ((heap : Heap) (t k : ℕ) → object_at heap t k u ≡ None) → pair_at u ≡ None → ((l : ℕ) → v ≡ At l → ⊥) → View w heap st u v
  x_pair : {a l : ℕ} (x y : Value) (ux uy : Word) → contents st l ≡ Holds (Pair x y) → slice_get heap a ≡ Some ux → slice_get heap (a + 1) ≡ Some uy → WRel w ux x → WRel w uy y →
      IsIn (Lk pair_tag a l) w → slice_get st l ≡ Some (Obj (Pair x y)) → View w heap st (W.Pointer pair_tag a) (At l)
  x_vector : {a l : ℕ} (vs : List Value) → length vs < 2 ^ 24 → contents st l ≡ Holds (Vec vs) → slice_get heap a ≡ Some (W.Header vector_kind (length vs)) → PRel w heap (a + 1) (length vs) vs →
      IsIn (Lk vector_tag a l) w → slice_get st l ≡ Some (Obj (Vec vs)) → View w heap st (W.Pointer vector_tag a) (At l)
  x_string : {a l : ℕ} (cs : List ℕ) → length cs < 2 ^ 24 → contents st l ≡ Holds (Str cs) → slice_get heap a ≡ Some (W.Header string_kind (length cs)) → BytesAt heap (a + 1) cs →
      IsIn (Lk string_tag a l) w → slice_get st l ≡ Some (Obj (Str cs)) → View w heap st (W.Pointer string_tag a) (At l)
  x_symbol : {a l : ℕ} (cs : List ℕ) → length cs < 2 ^ 24 → contents st l ≡ Holds (Sym cs) → slice_get heap a ≡ Some (W.Header symbol_kind (length cs)) → BytesAt heap (a + 1) cs →
      View w heap st (W.Pointer string_tag a) (At l)
  x_cell : {a l : ℕ} → contents st l ≡ Other → slice_get heap a ≡ Some (W.Header cell_kind 1) → View w heap st (W.Pointer vector_tag a) (At l)
  x_procedure : {a l n : ℕ} → contents st l ≡ Procedure → slice_get heap a ≡ Some (W.Header procedure_kind n) → View w heap st (W.Pointer procedure_tag a) (At l)

module _ (p : AnfTree) (notes : List Note) where
  view_item : (w : World) (heap : List Word) (st : List Item) (t a l : ℕ) (i : Item) → IsIn (Lk t a l) w → slice_get st l ≡ Some i → t ≡ tag_of i → ORel p notes w heap Whole a i →
      View w heap st (W.Pointer t a) (At l)
  view_item w heap st t a l i k there tg (o_cell hd pr) = subst (λ t. View w heap st (W.Pointer t a) (At l)) (sym tg) (x_cell (rw there refl) hd)
  view_item w heap st t a l i k there tg (o_pair (p_full {u = ux} {v = x} e r (p_full {u = uy} {v = y} f s p_none))) =
      let z : suc a ≡ a + 1 = omega arith in
      subst (λ t. View w heap st (W.Pointer t a) (At l)) (sym tg)
      (x_pair x y ux uy (rw there refl) e (subst (λ n. slice_get heap n ≡ Some uy) z f) r s (subst (λ t. IsIn (Lk t a l) w) tg k) there)
  view_item w heap st t a l i k there tg (o_vector {vs = vs} few hd pr) =
      subst (λ t. View w heap st (W.Pointer t a) (At l)) (sym tg) (x_vector vs few (rw there refl) hd pr (subst (λ t. IsIn (Lk t a l) w) tg k) there)
  view_item w heap st t a l i k there tg (o_string {cs = cs} few hd pr) =
      subst (λ t. View w heap st (W.Pointer t a) (At l)) (sym tg) (x_string cs few (rw there refl) hd pr (subst (λ t. IsIn (Lk t a l) w) tg k) there)
  view_item w heap st t a l i k there tg (o_symbol {cs = cs} few hd pr) =
      subst (λ t. View w heap st (W.Pointer t a) (At l)) (sym tg) (x_symbol cs few (rw there refl) hd pr)
  view_item w heap st t a l i k there tg (o_procedure m e us hd cd note long er pr) =
      subst (λ t. View w heap st (W.Pointer t a) (At l)) (sym tg) (x_procedure (rw there refl) hd)

  view_kind : (w : World) (globals : ℕ) (heap : List Word) (st : List Item) (u : Word) (v : Value) → Stores p notes w Closed globals heap st → Kind w u v → View w heap st u v
  view_kind w globals heap st u v s (k_data no_object no_pair ne) = x_data no_object no_pair ne
  view_kind w globals heap st u v s (k_at {t = t} {a = a} {l = l} k) = let d = s.linked t a l k in view_item w heap st t a l d.item k d.there d.tag d.rel

  pub view : (w : World) (globals : ℕ) (heap : List Word) (st : List Item) (u : Word) (v : Value) → Stores p notes w Closed globals heap st → WRel w u v → View w heap st u v
  view w globals heap st u v s r = view_kind w globals heap st u v s (kind_of w u v r)

-- a constant is no object
pub data_object : (st : ℕ → Content) (v : Value) (k : ℕ → Object → E.Effect) → ((l : ℕ) → v ≡ At l → ⊥) → E.with_object st v k ≡ E.wrong_type
data_object st (Value.Fix n) k ne = refl
data_object st (Value.Char n) k ne = refl
data_object st (Truth b) k ne = refl
data_object st Nil k ne = refl
data_object st Unspecified k ne = refl
data_object st Undefined k ne = refl
data_object st EndObject k ne = refl
data_object st (At l) k ne = absurd (ne l refl)

pub data_test : (st : ℕ → Content) (test : Content → Bool) (v : Value) → ((l : ℕ) → v ≡ At l → ⊥) → E.is_at st test v ≡ false
data_test st test (Value.Fix n) ne = refl
data_test st test (Value.Char n) ne = refl
data_test st test (Truth b) ne = refl
data_test st test Nil ne = refl
data_test st test Unspecified ne = refl
data_test st test Undefined ne = refl
data_test st test EndObject ne = refl
data_test st test (At l) ne = absurd (ne l refl)
