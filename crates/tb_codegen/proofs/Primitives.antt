-- What a primitive does with words is what it does with values.
use Rattle.std.proofs.Common.{◌≡◌, refl, sym, subst, ℕ, zero, suc, ◌+◌, ◌<◌, ◌==◌, ◌/◌, ◌%◌, ◌^◌, ◌&&◌, Bool, cond, true, false, ⊎_elim, arith, List, [], ◌∷◌, length, Some, slice_get, slice_set, lt-ltb, le-ltb, eq-eqb, ne_eqb}
use Rattle.std.specs.Prelude.{ℤ, pos, negsuc, ◌+ℤ◌, ◌-ℤ◌, ◌*ℤ◌, int_lt, int_le, int_div, int_rem, replicate, is_some, slice_index}
use Rattle.std.proofs.lemmas.Bool.{cases_lt, cases_eq}
use Rattle.tb_prim.specs.declared.event.Cause.{Cause}
use Rattle.tb_prim.specs.declared.primitive.Primitive.{Primitive}
use Rattle.tb_prim.specs.declared.primitive.Primitive.TheVariants as P
use Rattle.tb_prim.specs.Fixnums.{is_fixnum}
use Rattle.tb_semantics.specs.Graph.{IsIn}
use Rattle.tb_core.specs.Store.{Value, Undefined, Object, Pair, Vec, Str}
use Rattle.tb_core.specs.Effects as E
use Rattle.tb_ir.specs.Machine.{Item, Obj, contents}
use Rattle.tb_mac.specs.declared.word.Word.{Word}
use Rattle.tb_mac.specs.declared.word.Word.TheVariants as W
use Rattle.tb_mac.specs.declared.word.Placed.{Placed}
use Rattle.tb_mac.specs.Effects as M
use Rattle.tb_mac.specs.Words.{same_int, same_word}
use Rattle.tb_mac.specs.Objects.{new_string, new_vector, pair_tag, pair_words, procedure_kind, procedure_tag, string_kind, string_tag, symbol_kind, vector_kind, vector_tag}
use Rattle.tb_semantics.proofs.ListLemmas.{get-some}
use Rattle.tb_codegen.proofs.Simple.{same_test}
use Rattle.tb_codegen.proofs.Memories.{p_get}
use Rattle.tb_codegen.proofs.Rel.{BytesAt, Lk, PRel, World, WRel, w_fix, w_char, w_false, w_true, w_nil, w_unspecified, w_undefined, w_end, w_at}
use Rattle.tb_codegen.proofs.Views.{View, x_data, x_pair, x_vector, x_string, x_symbol, x_cell, x_procedure, data_object, data_test}

-- words of a new object
pub data News (w : World) : ℕ → List Word → Object → Type 0 where
  n_pair : {u v : Word} {x y : Value} → WRel w u x → WRel w v y → News w pair_tag (pair_words u v) (Pair x y)
  n_vector : (n : ℕ) → n < 2 ^ 24 → News w vector_tag (new_vector n) (Vec (replicate n (Value.Fix (pos 0))))
  n_string : (n : ℕ) → n < 2 ^ 24 → News w string_tag (new_string n) (Str (replicate n 0))

-- a word of an object that changes, as the object does
pub data Sets (w : World) (heap : List Word) (st : List Item) : ℕ → Word → ℕ → Object → Type 0 where
  s_car : {a l : ℕ} {u ux uy : Word} {x y v : Value} → slice_get st l ≡ Some (Obj (Pair x y)) → IsIn (Lk pair_tag a l) w → slice_get heap a ≡ Some ux → WRel w ux x → slice_get heap (a + 1) ≡ Some uy → WRel w uy y → WRel w u v →
      Sets w heap st a u l (Pair v y)
  s_cdr : (a : ℕ) {l : ℕ} {u ux uy : Word} {x y v : Value} → slice_get st l ≡ Some (Obj (Pair x y)) → IsIn (Lk pair_tag a l) w → slice_get heap a ≡ Some ux → WRel w ux x → slice_get heap (a + 1) ≡ Some uy → WRel w uy y → WRel w u v →
      Sets w heap st (a + 1) u l (Pair x v)
  s_vector : (a k : ℕ) {l : ℕ} {u : Word} {v : Value} (vs : List Value) → length vs < 2 ^ 24 → slice_get heap a ≡ Some (W.Header vector_kind (length vs)) → PRel w heap (a + 1) (length vs) vs → slice_get st l ≡ Some (Obj (Vec vs)) → IsIn (Lk vector_tag a l) w → k < length vs → WRel w u v → Sets w heap st (a + 1 + k) u l (Vec (slice_set vs k v))
  s_string : (a k c : ℕ) {l : ℕ} {bs : List ℕ} (cs : List ℕ) → length cs < 2 ^ 24 → slice_get heap a ≡ Some (W.Header string_kind (length cs)) → BytesAt heap (a + 1) cs → slice_get st l ≡ Some (Obj (Str cs)) → IsIn (Lk string_tag a l) w → k < length cs → slice_get heap (a + 1 + k / 4) ≡ Some (W.Raw bs) →
      Sets w heap st (a + 1 + k / 4) (W.Raw (slice_set bs (k % 4) c)) l (Str (slice_set cs k c))

pub data ERel (w : World) (heap : List Word) (st : List Item) : M.Effect → E.Effect → Type 0 where
  e_gives : {u : Word} {v : Value} → WRel w u v → ERel w heap st (M.Gives u) (E.Gives v)
  e_makes : {t : ℕ} {ws : List Word} {o : Object} → News w t ws o → ERel w heap st (M.Makes t ws) (E.Makes o)
  e_changes : {a l : ℕ} {u old : Word} {o : Object} → slice_get heap a ≡ Some old → Sets w heap st a u l o → ERel w heap st (M.Changes a u) (E.Changes l o)
  e_puts : (c : ℕ) → ERel w heap st (M.Puts c) (E.Puts c)
  e_takes : ERel w heap st M.Takes E.Takes
  e_peeks : ERel w heap st M.Peeks E.Peeks
  e_fails : (c : Cause) → ERel w heap st (M.Fails c) (E.Fails c)
  e_none : ERel w heap st M.NoNextStep E.Misused

index_get : (xs : List ℕ) (i x : ℕ) → slice_get xs i ≡ Some x → slice_index xs i ≡ x
index_get [] i x e = cc
index_get (y ∷ xs) zero x e = cc (e)
index_get (y ∷ xs) (suc i) x e = index_get xs i x e

-- an address stands for one location, and a location has one address and tag
pub record Unique (w : World) : Type 0 where
  pub same : (s t a b l : ℕ) → IsIn (Lk s a l) w → IsIn (Lk t b l) w → (s ≡ t) × (a ≡ b)
  pub apart : (s t a b l m : ℕ) → IsIn (Lk s a l) w → IsIn (Lk t b m) w → (l ≡ m → ⊥) → a ≡ b → ⊥

same_ints : (m n : ℤ) → same_int m n ≡ E.same_int m n
same_ints (pos a) (pos b) = refl
same_ints (pos a) (negsuc b) = refl
same_ints (negsuc a) (pos b) = refl
same_ints (negsuc a) (negsuc b) = refl

zero_test : (n : ℤ) → M.is_zero n ≡ E.is_zero n
zero_test (pos zero) = refl
zero_test (pos (suc n)) = refl
zero_test (negsuc n) = refl

truth_test : (a b : Bool) → M.same_truth a b ≡ E.same_truth a b
truth_test true b = refl
truth_test false b = refl

modulo_same : (m n : ℤ) → M.modulo_of m n ≡ E.modulo_of m n
modulo_same m n =
    let a = zero_test (int_rem m n) in
    let b = truth_test (int_lt (int_rem m n) (pos 0)) (int_lt n (pos 0)) in
    rw (a, b) refl

and_false : (b : Bool) → b && false ≡ false
and_false true = refl
and_false false = refl

same_pointers : (w : World) (s t a b l m : ℕ) → Unique w → IsIn (Lk s a l) w → IsIn (Lk t b m) w → (s == t) && (a == b) ≡ l == m
same_pointers w s t a b l m q i j =
    ⊎_elim
    (λ (e : l ≡ m).
    let h = q.same s t a b l i (subst (λ m. IsIn (Lk t b m) w) (sym e) j) in
    let x = eq-eqb s t h.0 in let y = eq-eqb a b h.1 in let z = eq-eqb l m e in
    rw (x, y, z) refl)
    (λ ne.
    let y = ne_eqb a b (q.apart s t a b l m i j ne) in let z = ne_eqb l m ne in
    rw (y, z) (and_false (s == t)))
    (cases_eq l m)

-- `eq?` of words is that of values, but for two marks
same_words : (w : World) (u v : Word) (a b : Value) → Unique w → (a ≡ Undefined → ⊥) → WRel w u a → WRel w v b → same_word u v ≡ E.same_value a b
same_words w u v a b q ne (w_fix m) (w_fix n) = same_ints m n
same_words w u v a b q ne (w_fix m) r = refl
same_words w u v a b q ne (w_char m) (w_char n) = refl
same_words w u v a b q ne (w_char m) r = refl
same_words w u v a b q ne w_false w_false = refl
same_words w u v a b q ne w_false r = refl
same_words w u v a b q ne w_true w_true = refl
same_words w u v a b q ne w_true r = refl
same_words w u v a b q ne w_nil w_nil = refl
same_words w u v a b q ne w_nil r = refl
same_words w u v a b q ne w_unspecified w_unspecified = refl
same_words w u v a b q ne w_unspecified r = refl
same_words w u v a b q ne w_undefined r = absurd (ne refl)
same_words w u v a b q ne w_end w_end = refl
same_words w u v a b q ne w_end r = refl
same_words w u v a b q ne (w_at {t = s} {a = x} {l = l} i) (w_at {t = t} {a = y} {l = m} j) = same_pointers w s t x y l m q i j
same_words w u v a b q ne (w_at i) r = refl

module _ (w : World) (heap : List Word) (st : List Item) where
  abbrev words : M.Heap
  words at = slice_get heap at

  truth : (b : Bool) → ERel w heap st (M.gives_truth b) (E.gives_truth b)
  truth true = e_gives w_true
  truth false = e_gives w_false

  truth_of : (b c : Bool) → b ≡ c → ERel w heap st (M.gives_truth b) (E.gives_truth c)
  truth_of b c e = subst (λ c. ERel w heap st (M.gives_truth b) (E.gives_truth c)) e (truth b)

  fix : (n : ℤ) → ERel w heap st (M.gives_fix n) (E.gives_fix n)
  fix n = elim (is_fixnum n) as (λ b. ERel w heap st (cond b (M.Gives (W.Fix n)) (M.Fails Cause.Overflow)) (cond b (E.Gives (Value.Fix n)) (E.Fails Cause.Overflow))) [
    | true ↦ e_gives (w_fix n)
    | false ↦ e_fails Cause.Overflow
  ]

  -- an operand that is to be a fixnum, or a character
  with_fix : (u : Word) (v : Value) (f : ℤ → M.Effect) (g : ℤ → E.Effect) → WRel w u v → ((n : ℤ) → ERel w heap st (f n) (g n)) → ERel w heap st (M.with_fix u f) (E.with_fix v g)
  with_fix u v f g (w_fix n) h = h n
  with_fix u v f g (w_char n) h = e_fails Cause.WrongType
  with_fix u v f g w_false h = e_fails Cause.WrongType
  with_fix u v f g w_true h = e_fails Cause.WrongType
  with_fix u v f g w_nil h = e_fails Cause.WrongType
  with_fix u v f g w_unspecified h = e_fails Cause.WrongType
  with_fix u v f g w_undefined h = e_fails Cause.WrongType
  with_fix u v f g w_end h = e_fails Cause.WrongType
  with_fix u v f g (w_at i) h = e_fails Cause.WrongType

  with_char : (u : Word) (v : Value) (f : ℕ → M.Effect) (g : ℕ → E.Effect) → WRel w u v → ((n : ℕ) → ERel w heap st (f n) (g n)) → ERel w heap st (M.with_char u f) (E.with_char v g)
  with_char u v f g (w_fix n) h = e_fails Cause.WrongType
  with_char u v f g (w_char n) h = h n
  with_char u v f g w_false h = e_fails Cause.WrongType
  with_char u v f g w_true h = e_fails Cause.WrongType
  with_char u v f g w_nil h = e_fails Cause.WrongType
  with_char u v f g w_unspecified h = e_fails Cause.WrongType
  with_char u v f g w_undefined h = e_fails Cause.WrongType
  with_char u v f g w_end h = e_fails Cause.WrongType
  with_char u v f g (w_at i) h = e_fails Cause.WrongType

  with_index : (n : ℤ) (b : ℕ) (f : ℕ → M.Effect) (g : ℕ → E.Effect) → ((k : ℕ) → k < b → ERel w heap st (f k) (g k)) → ERel w heap st (M.with_index n b f) (E.with_index n b g)
  with_index (pos n) b f g h =
      ⊎_elim (λ lt. let t = lt-ltb n b lt in rw t (h n lt)) (λ ge. let t = le-ltb n b ge in rw t (e_fails Cause.Range)) (cases_lt n b)
  with_index (negsuc n) b f g h = e_fails Cause.Range

  -- an operand that is to be a pair, a vector, a string or a symbol
  with_pair : (u : Word) (v : Value) (f : ℕ → M.Effect) (g : ℕ → Value → Value → E.Effect) → View w heap st u v →
      ((a l : ℕ) (x y : Value) (ux uy : Word) → slice_get st l ≡ Some (Obj (Pair x y)) → IsIn (Lk pair_tag a l) w → slice_get heap a ≡ Some ux → WRel w ux x → slice_get heap (a + 1) ≡ Some uy → WRel w uy y → ERel w heap st (f a) (g l x y)) →
      ERel w heap st (M.with_pair u f) (E.with_object (contents st) v (λ l o. E.if_pair o (g l)))
  with_pair u v f g (x_data no_object none ne) h = let q = data_object (contents st) v (λ l o. E.if_pair o (g l)) ne in rw (none, q) (e_fails Cause.WrongType)
  with_pair u v f g (x_pair {a = a} {l = l} x y ux uy c e1 e2 r1 r2 k there) h = rw c (h a l x y ux uy there k e1 r1 e2 r2)
  with_pair u v f g (x_vector vs few c hd pr k there) h = rw c (e_fails Cause.WrongType)
  with_pair u v f g (x_string cs few c hd pr k there) h = rw c (e_fails Cause.WrongType)
  with_pair u v f g (x_symbol cs few c hd pr) h = rw c (e_fails Cause.WrongType)
  with_pair u v f g (x_cell c hd) h = rw c (e_fails Cause.WrongType)
  with_pair u v f g (x_procedure c hd) h = rw c (e_fails Cause.WrongType)

  with_vector : (u : Word) (v : Value) (f : Placed → M.Effect) (g : ℕ → List Value → E.Effect) → View w heap st u v →
      ((a l : ℕ) (vs : List Value) → length vs < 2 ^ 24 → slice_get heap a ≡ Some (W.Header vector_kind (length vs)) → slice_get st l ≡ Some (Obj (Vec vs)) → IsIn (Lk vector_tag a l) w → PRel w heap (a + 1) (length vs) vs → ERel w heap st (f (record { at = a; size = length vs })) (g l vs)) →
      ERel w heap st (M.with_object (M.vector_at words u) f) (E.with_object (contents st) v (λ l o. E.if_vector o (g l)))
  with_vector u v f g (x_data no_object none ne) h = let q = data_object (contents st) v (λ l o. E.if_vector o (g l)) ne in let n = no_object words vector_tag vector_kind in rw (n, q) (e_fails Cause.WrongType)
  with_vector u v f g (x_pair x y ux uy c e1 e2 r1 r2 k there) h = rw c (e_fails Cause.WrongType)
  with_vector u v f g (x_vector {a = a} {l = l} vs few c hd pr k there) h = rw (c, hd) (h a l vs few hd there k pr)
  with_vector u v f g (x_string cs few c hd pr k there) h = rw c (e_fails Cause.WrongType)
  with_vector u v f g (x_symbol cs few c hd pr) h = rw c (e_fails Cause.WrongType)
  with_vector u v f g (x_cell c hd) h = rw (c, hd) (e_fails Cause.WrongType)
  with_vector u v f g (x_procedure c hd) h = rw c (e_fails Cause.WrongType)

  with_string : (u : Word) (v : Value) (f : Placed → M.Effect) (g : ℕ → List ℕ → E.Effect) → View w heap st u v →
      ((a l : ℕ) (cs : List ℕ) → length cs < 2 ^ 24 → slice_get heap a ≡ Some (W.Header string_kind (length cs)) → slice_get st l ≡ Some (Obj (Str cs)) → IsIn (Lk string_tag a l) w → BytesAt heap (a + 1) cs → ERel w heap st (f (record { at = a; size = length cs })) (g l cs)) →
      ERel w heap st (M.with_object (M.string_at words u) f) (E.with_object (contents st) v (λ l o. E.if_string o (g l)))
  with_string u v f g (x_data no_object none ne) h = let q = data_object (contents st) v (λ l o. E.if_string o (g l)) ne in let n = no_object words string_tag string_kind in rw (n, q) (e_fails Cause.WrongType)
  with_string u v f g (x_pair x y ux uy c e1 e2 r1 r2 k there) h = rw c (e_fails Cause.WrongType)
  with_string u v f g (x_vector vs few c hd pr k there) h = rw c (e_fails Cause.WrongType)
  with_string u v f g (x_string {a = a} {l = l} cs few c hd pr k there) h = rw (c, hd) (h a l cs few hd there k pr)
  with_string u v f g (x_symbol cs few c hd pr) h = rw (c, hd) (e_fails Cause.WrongType)
  with_string u v f g (x_cell c hd) h = rw c (e_fails Cause.WrongType)
  with_string u v f g (x_procedure c hd) h = rw c (e_fails Cause.WrongType)

  with_symbol : (u : Word) (v : Value) (f : Placed → M.Effect) (g : ℕ → List ℕ → E.Effect) → View w heap st u v →
      ((a l : ℕ) (cs : List ℕ) → length cs < 2 ^ 24 → BytesAt heap (a + 1) cs → ERel w heap st (f (record { at = a; size = length cs })) (g l cs)) →
      ERel w heap st (M.with_object (M.symbol_at words u) f) (E.with_object (contents st) v (λ l o. E.if_symbol o (g l)))
  with_symbol u v f g (x_data no_object none ne) h = let q = data_object (contents st) v (λ l o. E.if_symbol o (g l)) ne in let n = no_object words string_tag symbol_kind in rw (n, q) (e_fails Cause.WrongType)
  with_symbol u v f g (x_pair x y ux uy c e1 e2 r1 r2 k there) h = rw c (e_fails Cause.WrongType)
  with_symbol u v f g (x_vector vs few c hd pr k there) h = rw c (e_fails Cause.WrongType)
  with_symbol u v f g (x_string cs few c hd pr k there) h = rw (c, hd) (e_fails Cause.WrongType)
  with_symbol u v f g (x_symbol {a = a} {l = l} cs few c hd pr) h = rw (c, hd) (h a l cs few pr)
  with_symbol u v f g (x_cell c hd) h = rw c (e_fails Cause.WrongType)
  with_symbol u v f g (x_procedure c hd) h = rw c (e_fails Cause.WrongType)

  -- the kinds of objects
  is_pair : (u : Word) (v : Value) → View w heap st u v → is_some (M.pair_at u) ≡ E.is_at (contents st) E.is_pair v
  is_pair u v (x_data no_object none ne) = let q = data_test (contents st) E.is_pair v ne in rw (none, q) refl
  is_pair u v (x_pair x y ux uy c e1 e2 r1 r2 k there) = rw c refl
  is_pair u v (x_vector vs few c hd pr k there) = rw c refl
  is_pair u v (x_string cs few c hd pr k there) = rw c refl
  is_pair u v (x_symbol cs few c hd pr) = rw c refl
  is_pair u v (x_cell c hd) = rw c refl
  is_pair u v (x_procedure c hd) = rw c refl

  is_vector : (u : Word) (v : Value) → View w heap st u v → is_some (M.vector_at words u) ≡ E.is_at (contents st) E.is_vector v
  is_vector u v (x_data no_object none ne) = let q = data_test (contents st) E.is_vector v ne in let n = no_object words vector_tag vector_kind in rw (n, q) refl
  is_vector u v (x_pair x y ux uy c e1 e2 r1 r2 k there) = rw c refl
  is_vector u v (x_vector vs few c hd pr k there) = rw (c, hd) refl
  is_vector u v (x_string cs few c hd pr k there) = rw c refl
  is_vector u v (x_symbol cs few c hd pr) = rw c refl
  is_vector u v (x_cell c hd) = rw (c, hd) refl
  is_vector u v (x_procedure c hd) = rw c refl

  is_string : (u : Word) (v : Value) → View w heap st u v → is_some (M.string_at words u) ≡ E.is_at (contents st) E.is_string v
  is_string u v (x_data no_object none ne) = let q = data_test (contents st) E.is_string v ne in let n = no_object words string_tag string_kind in rw (n, q) refl
  is_string u v (x_pair x y ux uy c e1 e2 r1 r2 k there) = rw c refl
  is_string u v (x_vector vs few c hd pr k there) = rw c refl
  is_string u v (x_string cs few c hd pr k there) = rw (c, hd) refl
  is_string u v (x_symbol cs few c hd pr) = rw (c, hd) refl
  is_string u v (x_cell c hd) = rw c refl
  is_string u v (x_procedure c hd) = rw c refl

  is_symbol : (u : Word) (v : Value) → View w heap st u v → is_some (M.symbol_at words u) ≡ E.is_at (contents st) E.is_symbol v
  is_symbol u v (x_data no_object none ne) = let q = data_test (contents st) E.is_symbol v ne in let n = no_object words string_tag symbol_kind in rw (n, q) refl
  is_symbol u v (x_pair x y ux uy c e1 e2 r1 r2 k there) = rw c refl
  is_symbol u v (x_vector vs few c hd pr k there) = rw c refl
  is_symbol u v (x_string cs few c hd pr k there) = rw (c, hd) refl
  is_symbol u v (x_symbol cs few c hd pr) = rw (c, hd) refl
  is_symbol u v (x_cell c hd) = rw c refl
  is_symbol u v (x_procedure c hd) = rw c refl

  is_procedure : (u : Word) (v : Value) → View w heap st u v → is_some (M.procedure_at words u) ≡ E.is_at (contents st) E.is_procedure v
  is_procedure u v (x_data no_object none ne) = let q = data_test (contents st) E.is_procedure v ne in let n = no_object words procedure_tag procedure_kind in rw (n, q) refl
  is_procedure u v (x_pair x y ux uy c e1 e2 r1 r2 k there) = rw c refl
  is_procedure u v (x_vector vs few c hd pr k there) = rw c refl
  is_procedure u v (x_string cs few c hd pr k there) = rw c refl
  is_procedure u v (x_symbol cs few c hd pr) = rw c refl
  is_procedure u v (x_cell c hd) = rw c refl
  is_procedure u v (x_procedure c hd) = rw (c, hd) refl

  is_null : (u : Word) (v : Value) → WRel w u v → M.is_special 2 u ≡ E.is_null v
  is_null u v (w_fix n) = refl
  is_null u v (w_char n) = refl
  is_null u v w_false = refl
  is_null u v w_true = refl
  is_null u v w_nil = refl
  is_null u v w_unspecified = refl
  is_null u v w_undefined = refl
  is_null u v w_end = refl
  is_null u v (w_at i) = refl

  is_eof : (u : Word) (v : Value) → WRel w u v → M.is_special 5 u ≡ E.is_eof v
  is_eof u v (w_fix n) = refl
  is_eof u v (w_char n) = refl
  is_eof u v w_false = refl
  is_eof u v w_true = refl
  is_eof u v w_nil = refl
  is_eof u v w_unspecified = refl
  is_eof u v w_undefined = refl
  is_eof u v w_end = refl
  is_eof u v (w_at i) = refl

  is_boolean : (u : Word) (v : Value) → WRel w u v → M.is_boolean u ≡ E.is_boolean v
  is_boolean u v (w_fix n) = refl
  is_boolean u v (w_char n) = refl
  is_boolean u v w_false = refl
  is_boolean u v w_true = refl
  is_boolean u v w_nil = refl
  is_boolean u v w_unspecified = refl
  is_boolean u v w_undefined = refl
  is_boolean u v w_end = refl
  is_boolean u v (w_at i) = refl

  is_char : (u : Word) (v : Value) → WRel w u v → M.is_char u ≡ E.is_char v
  is_char u v (w_fix n) = refl
  is_char u v (w_char n) = refl
  is_char u v w_false = refl
  is_char u v w_true = refl
  is_char u v w_nil = refl
  is_char u v w_unspecified = refl
  is_char u v w_undefined = refl
  is_char u v w_end = refl
  is_char u v (w_at i) = refl

  is_integer : (u : Word) (v : Value) → WRel w u v → M.is_integer u ≡ E.is_integer v
  is_integer u v (w_fix n) = refl
  is_integer u v (w_char n) = refl
  is_integer u v w_false = refl
  is_integer u v w_true = refl
  is_integer u v w_nil = refl
  is_integer u v w_unspecified = refl
  is_integer u v w_undefined = refl
  is_integer u v w_end = refl
  is_integer u v (w_at i) = refl

  -- a character of a string or symbol
  char_at : (a : ℕ) (cs : List ℕ) (n k : ℕ) → k < length cs → BytesAt heap (a + 1) cs → ERel w heap st (M.gives_char words (record { at = a; size = n }) k) (E.gives_at (slice_get cs k) Value.Char)
  char_at a cs n k lt r =
      let g = get-some cs k lt in
      let b = r.bytes k g.0 g.1 in
      let q = index_get b.0 (k % 4) g.0 b.2 in
      rw (g.1, b.1, q) (e_gives (w_char g.0))

  -- the length of an object
  length_of : (n : ℕ) → n < 2 ^ 24 → ERel w heap st (cond (is_fixnum (pos n)) (M.Gives (W.Fix (pos n))) M.NoNextStep) (E.Gives (Value.Fix (pos n)))
  length_of n lt = let t = lt-ltb n (2 ^ 29) (omega arith) in rw t (e_gives (w_fix (pos n)))

  -- the primitives with one operand
  pub effect_one : (q : Primitive) (u : Word) (v : Value) → View w heap st u v → WRel w u v → ERel w heap st (M.effect_1 words q u) (E.effect_1 (contents st) q v)
  effect_one P.Car u v x r = with_pair u v (λ a. M.gives_word (words a)) (λ l x y. E.Gives x) x (λ a l x y ux uy there k e1 r1 e2 r2. rw e1 (e_gives r1))
  effect_one P.Cdr u v x r = with_pair u v (λ a. M.gives_word (words (a + 1))) (λ l x y. E.Gives y) x (λ a l x y ux uy there k e1 r1 e2 r2. rw e2 (e_gives r2))
  effect_one P.IsPair u v x r = truth_of _ _ (is_pair u v x)
  effect_one P.IsNull u v x r = truth_of _ _ (is_null u v r)
  effect_one P.Not u v x r = truth_of _ _ (same_test w u v r)
  effect_one P.IsBoolean u v x r = truth_of _ _ (is_boolean u v r)
  effect_one P.IsSymbol u v x r = truth_of _ _ (is_symbol u v x)
  effect_one P.IsChar u v x r = truth_of _ _ (is_char u v r)
  effect_one P.IsString u v x r = truth_of _ _ (is_string u v x)
  effect_one P.IsVector u v x r = truth_of _ _ (is_vector u v x)
  effect_one P.IsProcedure u v x r = truth_of _ _ (is_procedure u v x)
  effect_one P.IsInteger u v x r = truth_of _ _ (is_integer u v r)
  effect_one P.IsEof u v x r = truth_of _ _ (is_eof u v r)
  effect_one P.CharToInt u v x r = with_char u v _ _ r (λ c. e_gives (w_fix (pos c)))
  effect_one P.IntToChar u v x r = with_fix u v _ _ r (λ n. with_index n 256 _ _ (λ c lt. e_gives (w_char c)))
  effect_one P.MakeVector u v x r = with_fix u v _ _ r (λ n. with_index n (2 ^ 24) _ _ (λ k lt. e_makes (n_vector k lt)))
  effect_one P.VectorLength u v x r = with_vector u v (λ o. cond (is_fixnum (pos o.size)) (M.Gives (W.Fix (pos o.size))) M.NoNextStep) (λ l vs. E.Gives (Value.Fix (pos (length vs)))) x (λ a l vs few hd there k pr. length_of (length vs) few)
  effect_one P.MakeString u v x r = with_fix u v _ _ r (λ n. with_index n (2 ^ 24) _ _ (λ k lt. e_makes (n_string k lt)))
  effect_one P.StringLength u v x r = with_string u v (λ o. cond (is_fixnum (pos o.size)) (M.Gives (W.Fix (pos o.size))) M.NoNextStep) (λ l cs. E.Gives (Value.Fix (pos (length cs)))) x (λ a l cs few hd there k pr. length_of (length cs) few)
  effect_one P.SymbolLength u v x r = with_symbol u v (λ o. cond (is_fixnum (pos o.size)) (M.Gives (W.Fix (pos o.size))) M.NoNextStep) (λ l cs. E.Gives (Value.Fix (pos (length cs)))) x (λ a l cs few pr. length_of (length cs) few)
  effect_one P.WriteChar u v x r = with_char u v _ _ r (λ c. e_puts c)
  effect_one q u v x r = e_none

  pub effect_none : (q : Primitive) → ERel w heap st (M.effect_0 q) (E.effect_0 q)
  effect_none P.ReadChar = e_takes
  effect_none P.PeekChar = e_peeks
  effect_none P.Unspecified = e_gives w_unspecified
  effect_none q = e_none

  -- both operands are to be fixnums
  with_fixes : (u v : Word) (a b : Value) (f : ℤ → ℤ → M.Effect) (g : ℤ → ℤ → E.Effect) → WRel w u a → WRel w v b → ((m n : ℤ) → ERel w heap st (f m n) (g m n)) →
      ERel w heap st (M.with_fixes u v f) (E.with_fix a (λ m. E.with_fix b (λ n. g m n)))
  with_fixes u v a b f g r s h = with_fix u a (λ m. M.with_fix v (λ n. f m n)) (λ m. E.with_fix b (λ n. g m n)) r (λ m. with_fix v b (λ n. f m n) (λ n. g m n) s (λ n. h m n))

  divides : (n : ℤ) (f : M.Effect) (g : E.Effect) → ERel w heap st f g → ERel w heap st (cond (M.is_zero n) (M.Fails Cause.ZeroDivide) f) (cond (E.is_zero n) (E.Fails Cause.ZeroDivide) g)
  divides n f g h =
      let q = zero_test n in
      rw (sym q) (elim (M.is_zero n) as (λ b. ERel w heap st (cond b (M.Fails Cause.ZeroDivide) f) (cond b (E.Fails Cause.ZeroDivide) g)) [ true ↦ e_fails Cause.ZeroDivide | false ↦ h ])

  module _ (q0 : Unique w) where
    -- the primitives with two operands
    pub effect_two : (q : Primitive) (u v : Word) (a b : Value) → (a ≡ Undefined → ⊥) → View w heap st u a → WRel w u a → WRel w v b → ERel w heap st (M.effect_2 words q u v) (E.effect_2 (contents st) q a b)
    effect_two P.Cons u v a b ne x r s = e_makes (n_pair r s)
    effect_two P.SetCar u v a b ne x r s = with_pair u a (λ at. M.changes_word words at v) (λ l x y. E.Changes l (Pair b y)) x (λ at l x y ux uy there k e1 r1 e2 r2. rw e1 (e_changes e1 (s_car there k e1 r1 e2 r2 s)))
    effect_two P.SetCdr u v a b ne x r s = with_pair u a (λ at. M.changes_word words (at + 1) v) (λ l x y. E.Changes l (Pair x b)) x (λ at l x y ux uy there k e1 r1 e2 r2. rw e2 (e_changes e2 (s_cdr at there k e1 r1 e2 r2 s)))
    effect_two P.Eq u v a b ne x r s = truth_of _ _ (same_words w u v a b q0 ne r s)
    effect_two P.Add u v a b ne x r s = with_fixes u v a b _ _ r s (λ m n. fix (m +ℤ n))
    effect_two P.Sub u v a b ne x r s = with_fixes u v a b _ _ r s (λ m n. fix (m -ℤ n))
    effect_two P.Mul u v a b ne x r s = with_fixes u v a b _ _ r s (λ m n. fix (m *ℤ n))
    effect_two P.Quotient u v a b ne x r s = with_fixes u v a b _ _ r s (λ m n. divides n _ _ (fix (int_div m n)))
    effect_two P.Remainder u v a b ne x r s = with_fixes u v a b _ _ r s (λ m n. divides n _ _ (e_gives (w_fix (int_rem m n))))
    effect_two P.Modulo u v a b ne x r s = with_fixes u v a b _ _ r s (λ m n. divides n _ _ (subst (λ z. ERel w heap st (M.Gives (W.Fix (M.modulo_of m n))) (E.Gives (Value.Fix z))) (modulo_same m n) (e_gives (w_fix (M.modulo_of m n)))))
    effect_two P.NumEq u v a b ne x r s = with_fixes u v a b _ _ r s (λ m n. truth_of _ _ (same_ints m n))
    effect_two P.Less u v a b ne x r s = with_fixes u v a b _ _ r s (λ m n. truth (int_lt m n))
    effect_two P.Greater u v a b ne x r s = with_fixes u v a b _ _ r s (λ m n. truth (int_lt n m))
    effect_two P.LessEq u v a b ne x r s = with_fixes u v a b _ _ r s (λ m n. truth (int_le m n))
    effect_two P.GreaterEq u v a b ne x r s = with_fixes u v a b _ _ r s (λ m n. truth (int_le n m))
    effect_two P.VectorRef u v a b ne x r s =
        with_vector u a (λ o. M.with_fix v (λ n. M.with_index n o.size (λ k. M.gives_word (words (o.at + 1 + k))))) (λ l vs. E.with_fix b (λ n. E.with_index n (length vs) (λ k. E.gives_at (slice_get vs k) (λ v. v)))) x
        (λ at l vs few hd there k pr. with_fix v b _ _ s (λ n. with_index n (length vs) _ _ (λ k lt. element at vs k lt pr)))
      where
        element : (at : ℕ) (vs : List Value) (k : ℕ) → k < length vs → PRel w heap (at + 1) (length vs) vs → ERel w heap st (M.gives_word (words (at + 1 + k))) (E.gives_at (slice_get vs k) (λ v. v))
        element at vs k lt pr =
            let g = get-some vs k lt in
            let t = p_get w heap (at + 1) (length vs) vs k g.0 pr lt g.1 in
            rw (g.1, t.1) (e_gives t.2)
    effect_two P.StringRef u v a b ne x r s =
        with_string u a (λ o. M.with_fix v (λ n. M.with_index n o.size (M.gives_char words o))) (λ l cs. E.with_fix b (λ n. E.with_index n (length cs) (λ k. E.gives_at (slice_get cs k) Value.Char))) x
        (λ at l cs few hd there k pr. with_fix v b _ _ s (λ n. with_index n (length cs) _ _ (λ k lt. char_at at cs (length cs) k lt pr)))
    effect_two P.SymbolRef u v a b ne x r s =
        with_symbol u a (λ o. M.with_fix v (λ n. M.with_index n o.size (M.gives_char words o))) (λ l cs. E.with_fix b (λ n. E.with_index n (length cs) (λ k. E.gives_at (slice_get cs k) Value.Char))) x
        (λ at l cs few pr. with_fix v b _ _ s (λ n. with_index n (length cs) _ _ (λ k lt. char_at at cs (length cs) k lt pr)))
    effect_two q u v a b ne x r s = e_none

  -- an element of a vector or a character of a string is set
  element_set : (at l : ℕ) (vs : List Value) (k : ℕ) (z : Word) (d : Value) → length vs < 2 ^ 24 → slice_get heap at ≡ Some (W.Header vector_kind (length vs)) → k < length vs → slice_get st l ≡ Some (Obj (Vec vs)) → IsIn (Lk vector_tag at l) w → PRel w heap (at + 1) (length vs) vs → WRel w z d →
      ERel w heap st (M.changes_word words (at + 1 + k) z) (E.Changes l (Vec (slice_set vs k d)))
  element_set at l vs k z d few hd lt there link pr r =
      let g = get-some vs k lt in
      let t = p_get w heap (at + 1) (length vs) vs k g.0 pr lt g.1 in
      rw (t.1) (e_changes t.1 (s_vector at k vs few hd pr there link lt r))

  char_set : (at l : ℕ) (cs : List ℕ) (k c : ℕ) → length cs < 2 ^ 24 → slice_get heap at ≡ Some (W.Header string_kind (length cs)) → k < length cs → slice_get st l ≡ Some (Obj (Str cs)) → IsIn (Lk string_tag at l) w → BytesAt heap (at + 1) cs →
      ERel w heap st (M.changes_char words (record { at = at; size = length cs }) k c) (E.Changes l (Str (slice_set cs k c)))
  char_set at l cs k c few hd lt there link r =
      let g = get-some cs k lt in
      let b = r.bytes k g.0 g.1 in
      rw (b.1) (e_changes b.1 (s_string at k c cs few hd r there link lt b.1))

  pub effect_three : (q : Primitive) (u v z : Word) (a b d : Value) → View w heap st u a → WRel w v b → WRel w z d → ERel w heap st (M.effect_3 words q u v z) (E.effect_3 (contents st) q a b d)
  effect_three P.VectorSet u v z a b d x s t =
      with_vector u a (λ o. M.with_fix v (λ n. M.with_index n o.size (λ k. M.changes_word words (o.at + 1 + k) z))) (λ l vs. E.with_fix b (λ n. E.with_index n (length vs) (λ k. E.Changes l (Vec (slice_set vs k d))))) x
      (λ at l vs few hd there link pr. with_fix v b _ _ s (λ n. with_index n (length vs) _ _ (λ k lt. element_set at l vs k z d few hd lt there link pr t)))
  effect_three P.StringSet u v z a b d x s t =
      with_string u a (λ o. M.with_fix v (λ n. M.with_char z (λ c. M.with_index n o.size (λ k. M.changes_char words o k c)))) (λ l cs. E.with_fix b (λ n. E.with_char d (λ ch. E.with_index n (length cs) (λ k. E.Changes l (Str (slice_set cs k ch)))))) x
      (λ at l cs few hd there link pr. with_fix v b _ _ s (λ n. with_char z d _ _ t (λ c. with_index n (length cs) _ _ (λ k lt. char_set at l cs k c few hd lt there link pr))))
  effect_three q u v z a b d x s t = e_none
