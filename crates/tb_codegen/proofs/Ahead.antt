-- In the code of a program each jump and branch goes to a number from which fewer instructions stand before the next
-- `proc`.
use Rattle.std.proofs.Common.{◌≡◌, ℕ, zero, suc, ◌<◌, ◌+◌, ◌==◌, ◌⊎◌, Bool, true, false, true≢false, cond, List, [], ◌∷◌, ◌++◌, length, drop, map, Some, None, slice_get, refl, sym, ap, ◌∙◌, subst, inl, inr, ⊎_elim, eq-eqb, arith}
use Rattle.tb_semantics.specs.Graph.{IsApart, IsIn}
use Rattle.tb_ir.specs.AnfRules.{forms_of, lambdas_of}
use Rattle.tb_ir.specs.AnfTree.{ProcTree, AnfTree}
use Rattle.tb_mac.specs.declared.code.Instr.{Instr}
use Rattle.tb_mac.specs.declared.code.Instr.TheVariants as I
use Rattle.tb_mac.specs.Assemble.{instructions, number_of, stands_at, with_target}
use Rattle.tb_mac.specs.Bounds.{before_proc}
use Rattle.tb_mac.specs.Words.{on_some}
use Rattle.tb_codegen.specs.Generate.{body_of, code_block, code_form, code_forms, code_lambdas, counting, entry, frame_made, labels_in, labels_within, noted_items, operands_map, stores_captured, stores_operands}
use Rattle.tb_codegen.specs.Homes.{frame_size, slot_of}
use Rattle.tb_codegen.specs.Notes.{AtProc, AtArgs, AtLifted, Noted, Mark, Does, ToCaller, ToTop}
use Rattle.tb_codegen.proofs.Assembling.{items_of, other-label}
use Rattle.tb_codegen.proofs.Jumps.{Enters, IsLiftedAt, Lands, Piece, block-piece, pieces, stores-captured-piece, stores-operands-piece}
use Rattle.tb_codegen.proofs.Labels.{labels-apart, labels-marks, marks}
use Rattle.tb_codegen.proofs.Ok.{free}
use Rattle.tb_codegen.proofs.WholeChains.{FormsOk, LambdaOk, LambdasOk, ProgramOk}
use Rattle.tb_codegen.proofs.Windows.{IsPlain, left, plain-first}

-- what an instruction jumps to
abbrev pub jumps : Instr → List ℕ
jumps (I.Jump x) = x ∷ []
jumps (I.Brf a x) = x ∷ []
jumps _ = []

-- the labels before the next `proc`
abbrev unless_proc : Instr → List ℕ → List ℕ
unless_proc (I.Proc x) ls = []
unless_proc i ls = ls

abbrev ahead : List Noted → List ℕ
ahead [] = []
ahead (Mark l n ∷ is) = l ∷ ahead is
ahead (Does i n q ∷ is) = unless_proc i (ahead is)

abbrev Goes : (ℕ → Type 0) → Instr → Type 0
Goes T (I.Jump l) = T l
Goes T (I.Brf a l) = T l
Goes T i = Unit {0}

-- each jumps to a label before the next `proc`, or to one of these
abbrev Ahead : (ℕ → Type 0) → List Noted → Type 0
Ahead T [] = Unit {0}
Ahead T (Mark l n ∷ is) = Ahead T is
Ahead T (Does i n q ∷ is) = Goes (λ l. IsIn l (ahead is) ⊎ T l) i × Ahead T is

unless-plain : (T : ℕ → Type 0) (i : Instr) (ls : List ℕ) → Lands T i → ls ≡ unless_proc i ls
unless-plain T (I.Proc x) ls h = absurd h
unless-plain T _ ls h = refl

goes-of : (T U : ℕ → Type 0) → ((l : ℕ) → T l → U l) → (i : Instr) → Lands T i → Goes U i
goes-of T U f (I.Jump l) h = f l h
goes-of T U f (I.Brf a l) h = f l h
goes-of T U f _ h = tt

piece-in : (T : ℕ → Type 0) (is js : List Noted) → Piece T is → (l : ℕ) → IsIn l (marks is) → IsIn l (ahead (is ++ js))
piece-in T [] js g l i = absurd i
piece-in T (Mark m n ∷ is) js g l (inl e) = inl e
piece-in T (Mark m n ∷ is) js g l (inr i) = inr (piece-in T is js g l i)
piece-in T (Does j n q ∷ is) js g l i =
    subst (IsIn l) (unless-plain (λ l. IsIn l (marks is) ⊎ T l) j (ahead (is ++ js)) g.0) (piece-in T is js g.1 l i)

piece-ahead : (T : ℕ → Type 0) (is js : List Noted) → Piece T is → Ahead T js → Ahead T (is ++ js)
piece-ahead T [] js g h = h
piece-ahead T (Mark m n ∷ is) js g h = piece-ahead T is js g h
piece-ahead T (Does i n q ∷ is) js g h = (
  goes-of (λ l. IsIn l (marks is) ⊎ T l) (λ l. IsIn l (ahead (is ++ js)) ⊎ T l)
      (λ l. ⊎_elim (λ j. inl (piece-in T is js g.1 l j)) (λ t. inr t)) i g.0,
  piece-ahead T is js g.1 h,
)

module _ (p : AnfTree) (all : List Noted) (T : ℕ → Type 0) (enters : Enters p all (λ x. 0) 0 T) where
  forms-piece : (k : ℕ) (qs : List ProcTree) (l : ℕ) → FormsOk p all k qs → Piece T (code_forms p k qs l)
  forms-piece k [] l h = tt
  forms-piece k (q ∷ qs) l h =
      pieces T (code_form p k q l) (code_forms p (suc k) qs (l + labels_in q.body))
      (tt, block-piece p all (slot_of q) (frame_size q) T q.body (ToTop (suc k)) l [] enters tt h.0.block)
      (forms-piece (suc k) qs (l + labels_in q.body) h.1)

  body-piece : (n : ℕ) (q : ProcTree) (l : ℕ) → LambdaOk p all n q →
      Piece T (frame_made (body_of p q) n q.body q.params q.captured ++ code_block (body_of p q) q.body ToCaller l)
  body-piece n q l h =
      let c = body_of p q in
      pieces T (frame_made c n q.body q.params q.captured) (code_block c q.body ToCaller l) (
        tt,
        pieces T (stores_captured c n _ (operands_map (free p q.body) 1 q.params) 0 q.captured []) (stores_operands c _ (free p q.body) 1 q.params q.captured)
            (stores-captured-piece c T n _ _ 0 q.captured []) (stores-operands-piece c T _ _ 1 q.params q.captured),
      )
      (block-piece p all (slot_of q) (frame_size q) T q.body ToCaller l [] enters tt h.block)

  counting-goes : (U : ℕ → Type 0) (b : Bool) (params : List ℕ) → Goes U (counting b params)
  counting-goes U true params = tt
  counting-goes U false params = tt

  entry-ahead : (n : ℕ) (q : ProcTree) (js rest : List Noted) → Ahead T (js ++ rest) → Ahead T ((entry (body_of p q) n q ++ js) ++ rest)
  entry-ahead n q js rest h = by q.lifted
    where
      by : (b : Bool) → Ahead T ((cond b (Does (I.Proc n) (AtLifted n (operands_map (free p q.body) 1 q.params)) None ∷ [])
          (Does (I.Proc n) (AtProc n) None ∷ Does (counting q.rest q.params) (AtArgs n) (Some q.place) ∷ []) ++ js) ++ rest)
      by true = (tt, h)
      by false = (tt, (counting-goes _ q.rest q.params, h))

  lambdas-ahead : (n : ℕ) (qs : List ProcTree) (l : ℕ) → LambdasOk p all n qs → Ahead T (code_lambdas p n qs l)
  lambdas-ahead n [] l h = tt
  lambdas-ahead n (q ∷ qs) l h =
      let js = frame_made (body_of p q) n q.body q.params q.captured ++ code_block (body_of p q) q.body ToCaller l in
      let rest = code_lambdas p (suc n) qs (l + labels_in q.body) in
      entry-ahead n q js rest (piece-ahead T js rest (body-piece n q l h.0) (lambdas-ahead (suc n) qs (l + labels_in q.body) h.1))

program-ahead : (p : AnfTree) → ProgramOk p → Ahead (IsLiftedAt (noted_items p)) (noted_items p)
program-ahead p h =
    let l = length (lambdas_of p) in
    let T = IsLiftedAt (noted_items p) in
    piece-ahead T (code_forms p 0 (forms_of p) l) _ (forms-piece p (noted_items p) T (λ m i. i) 0 (forms_of p) l h.forms)
    (tt, lambdas-ahead p (noted_items p) T (λ m i. i) 0 (lambdas_of p) (l + labels_within (forms_of p)) h.lambdas)

-- numbers in place of labels
none-some : {i : Instr} → None ≡ Some i → ⊥
none-some e = cc

some-same : {i j : Instr} → Some i ≡ Some j → i ≡ j
some-same e = cc

unless-in : (i : Instr) (ls : List ℕ) (l : ℕ) → IsIn l (unless_proc i ls) → IsPlain i × IsIn l ls
unless-in (I.Proc x) ls l h = absurd h
unless-in _ ls l h = (tt, h)

ahead-in : (is : List Noted) (l : ℕ) → IsIn l (ahead is) → IsIn l (marks is)
ahead-in [] l i = i
ahead-in (Mark m n ∷ is) l (inl e) = inl e
ahead-in (Mark m n ∷ is) l (inr i) = inr (ahead-in is l i)
ahead-in (Does j n q ∷ is) l i = ahead-in is l (unless-in j (ahead is) l i).1

plain-target : (to : ℕ → ℕ) (i : Instr) → IsPlain i → IsPlain (with_target to i)
plain-target to (I.Proc x) h = h
plain-target to _ h = tt

drop-next : (code : List Instr) (base : ℕ) (i : Instr) (is : List Instr) → drop base code ≡ i ∷ is → drop (suc base) code ≡ is
drop-next [] zero i is e = absurd (cc)
drop-next [] (suc base) i is e = absurd (cc)
drop-next (j ∷ code) zero i is e = cc
drop-next (j ∷ code) (suc base) i is e = drop-next code base i is e

drop-on : (code : List Instr) (a b : ℕ) → drop (a + b) code ≡ drop b (drop a code)
drop-on code zero b = let z : 0 + b ≡ b = omega arith in ap (λ n. drop n code) z
drop-on [] (suc a) zero = let z : suc a + 0 ≡ suc (a + 0) = omega arith in ap (λ n. drop n []) z
drop-on [] (suc a) (suc b) = let z : suc a + suc b ≡ suc (a + suc b) = omega arith in ap (λ n. drop n []) z
drop-on (i ∷ code) (suc a) b = let z : suc a + b ≡ suc (a + b) = omega arith in ap (λ n. drop n (i ∷ code)) z ∙ drop-on code a b

module _ (to : ℕ → ℕ) where
  abbrev code_from : List Noted → List Instr
  code_from is = map (with_target to) (instructions (items_of is))

  -- a label before the next `proc` stands at an instruction from which fewer are before it
  ahead-stands : (base : ℕ) (is : List Noted) (l : ℕ) → IsIn l (ahead is) →
      (k : ℕ) × (stands_at l base (items_of is) ≡ Some (base + k)) × (k + before_proc (drop k (code_from is)) ≡ before_proc (code_from is))
  ahead-stands base [] l i = absurd i
  ahead-stands base (Does j n q ∷ is) l i =
      let u = unless-in j (ahead is) l i in
      let r = ahead-stands (suc base) is l u.1 in
      let z : suc base + r.0 ≡ base + suc r.0 = omega arith in
      let f = plain-first (with_target to j) (code_from is) (plain-target to j u.0) in
      let g = r.2 in
      (suc r.0, r.1 ∙ ap Some z, omega (arith, f, g))
  ahead-stands base (Mark m n ∷ is) l i = by (m == l) refl i (ahead-stands base is l)
    where
      by : (b : Bool) → (m == l) ≡ b → IsIn l (m ∷ ahead is) →
          (IsIn l (ahead is) → (k : ℕ) × (stands_at l base (items_of is) ≡ Some (base + k)) × (k + before_proc (drop k (code_from is)) ≡ before_proc (code_from is))) →
          (k : ℕ) × (cond b (Some base) (stands_at l base (items_of is)) ≡ Some (base + k)) × (k + before_proc (drop k (code_from is)) ≡ before_proc (code_from is))
      by true e h so = let z : base ≡ base + 0 = omega arith in (0, ap Some z, omega arith)
      by false e (inl r) so = absurd (true≢false (sym (eq-eqb m l r) ∙ e))
      by false e (inr j) so = so j

module _ (all : List Noted) (code : List Instr) (T : ℕ → Type 0) (zeros : (l : ℕ) → T l → left code (number_of (items_of all) l) ≡ 0) where
  abbrev to : ℕ → ℕ
  to = number_of (items_of all)

  -- labels stand among these items where they stand among all
  abbrev Alike : ℕ → List Noted → Type 0
  Alike base is = (l : ℕ) → IsIn l (marks is) → stands_at l 0 (items_of all) ≡ stands_at l base (items_of is)

  nearer : (base : ℕ) (i : Instr) (is : List Noted) (l : ℕ) → IsPlain i → Alike (suc base) is → drop base code ≡ i ∷ code_from to is →
      IsIn l (ahead is) ⊎ T l → left code (to l) < left code base
  nearer base i is l plain alike d (inl j) =
      let r = ahead-stands to (suc base) is l j in
      let number : to l ≡ suc base + r.0 = ap (λ o. on_some o 0 (λ n. n)) (alike l (ahead-in is l j) ∙ r.1) in
      let rest : left code (to l) ≡ before_proc (drop r.0 (code_from to is)) =
      ap (left code) number ∙ ap before_proc (drop-on code (suc base) r.0 ∙ ap (drop r.0) (drop-next code base i _ d)) in
      let f : left code base ≡ before_proc (i ∷ code_from to is) = ap before_proc d in
      let s = plain-first i (code_from to is) plain in
      let g = r.2 in
      omega (arith, rest, f, s, g)
  nearer base i is l plain alike d (inr t) =
      let z = zeros l t in
      let f : left code base ≡ before_proc (i ∷ code_from to is) = ap before_proc d in
      let s = plain-first i (code_from to is) plain in
      omega (arith, z, f, s)

  first-nearer : (base : ℕ) (i : Instr) (is : List Noted) → Alike (suc base) is → drop base code ≡ with_target to i ∷ code_from to is →
      Goes (λ l. IsIn l (ahead is) ⊎ T l) i → (x : ℕ) → IsIn x (jumps (with_target to i)) → left code x < left code base
  first-nearer base (I.Jump l) is alike d h x (inl e) = subst (λ n. left code n < left code base) e (nearer base (I.Jump (to l)) is l tt alike d h)
  first-nearer base (I.Jump l) is alike d h x (inr k) = absurd k
  first-nearer base (I.Brf a l) is alike d h x (inl e) = subst (λ n. left code n < left code base) e (nearer base (I.Brf a (to l)) is l tt alike d h)
  first-nearer base (I.Brf a l) is alike d h x (inr k) = absurd k
  first-nearer base _ is alike d h x k = absurd k

  all-nearer : (base : ℕ) (is : List Noted) → IsApart (marks is) → Alike base is → drop base code ≡ code_from to is → Ahead T is →
      (k : ℕ) (i : Instr) → slice_get (code_from to is) k ≡ Some i → (x : ℕ) → IsIn x (jumps i) → left code x < left code (base + k)
  all-nearer base [] once alike d h k i e x j = absurd (none-some e)
  all-nearer base (Mark m n ∷ is) once alike d h k i e x j =
      all-nearer base is once.1
      (λ l v. alike l (inr v) ∙ other-label m l base is (λ s. once.0 (subst (λ y. IsIn y (marks is)) (sym s) v))) d h k i e x j
  all-nearer base (Does i n q ∷ is) once alike d h zero i2 e x j =
      let z : base ≡ base + 0 = omega arith in
      subst (λ y. left code x < left code y) z
      (first-nearer base i is alike d h.0 x (subst (λ y. IsIn x (jumps y)) (sym (some-same e)) j))
  all-nearer base (Does i n q ∷ is) once alike d h (suc k) i2 e x j =
      let z : suc base + k ≡ base + suc k = omega arith in
      subst (λ y. left code x < left code y) z (all-nearer (suc base) is once alike (drop-next code base _ _ d) h.1 k i2 e x j)

-- in the code of a program
pub jumps-nearer : (p : AnfTree) → ProgramOk p → (code : List Instr) → code ≡ map (with_target (number_of (items_of (noted_items p)))) (instructions (items_of (noted_items p))) →
    ((l : ℕ) → IsLiftedAt (noted_items p) l → left code (number_of (items_of (noted_items p)) l) ≡ 0) →
    (k : ℕ) (i : Instr) → slice_get code k ≡ Some i → (x : ℕ) → IsIn x (jumps i) → left code x < left code k
jumps-nearer p h code same zeros k i e x j =
    let all = noted_items p in
    let z : 0 + k ≡ k = omega arith in
    subst (λ y. left code x < left code y) z
    (all-nearer all code (IsLiftedAt all) zeros 0 all (subst IsApart (labels-marks all) (labels-apart p)) (λ l v. refl) same (program-ahead p h) k i
    (ap (λ c. slice_get c k) (sym same) ∙ e) x j)
