-- Calls that become direct: the source alone evaluates the operator, and the target alone the added variables.
use Rattle.std.proofs.Common.{◌≡◌, refl, sym, ap, ◌∙◌, ℕ, zero, suc, ◌+◌, ◌*◌, ◌-◌, ◌<◌, ◌≤◌, arith, ◌⊎◌, inl, inr, ⊎_elim, List, [], ◌∷◌, ◌++◌, length, drop, Some, None, slice_get}
use Rattle.tb_prim.specs.declared.place.Place.{Place}
use Rattle.tb_prim.specs.declared.event.Event.{Event}
use Rattle.tb_semantics.specs.Graph.{IsIn, Reaches}
use Rattle.tb_semantics.specs.Runs.{run}
use Rattle.tb_core.specs.Store.{Value, At}
use Rattle.tb_core.specs.Space.{values_locations}
use Rattle.tb_core.specs.Reference.{arranged}
use Rattle.tb_core.proofs.Members.{in-either}
use Rattle.tb_ir.specs.Tree.{Tree, Node, Form, Local, Call, Direct, Trees, none, more, count, tree_at, operands}
use Rattle.tb_ir.specs.Rules.{IsPermutation}
use Rattle.tb_ir.specs.Machine as M
use Rattle.tb_ir.specs.Machine.{Env, Control, Closure, Lifted, Entering, Eval, Val, Running, gather, lookup}
use Rattle.tb_ir.specs.TreeMachine as T
use Rattle.tb_ir.specs.TreeMachine.{TreeConfig, TreeState, Frames, Args, numbers, numbers_from, free_of_numbers, free_of_tree, env_values}
use Rattle.tb_ir.specs.Space as V
use Rattle.tb_lift.specs.Lift.{joined, locals}
use Rattle.tb_lift.proofs.Rel.{World, Pass, source, target, BecomeAll, all_end, all_more, Uses, entered, CallRel, own_numbers, added_numbers, FramesRel}
use Rattle.tb_lift.proofs.Uses.{Fits, uses-tree, uses-left, uses-right}
use Rattle.tb_lift.proofs.Shape.{roots_of, source_language}
use Rattle.tb_lift.proofs.Match.{sources, facts-of}
use Rattle.tb_lift.proofs.Base.{Ground, StateRel}
use Rattle.tb_lift.proofs.Operands.{count-all, permutation-length, uses-any}
use Rattle.tb_lift.proofs.Nodes.{drop-front}
use Rattle.tb_lift.proofs.Arranged.{direct-all, passes}

tree_within : (es : Trees) (n : ℕ) → n < count es → (e : Tree) × (tree_at es n ≡ Some e)
tree_within none n lt = absurd (omega arith)
tree_within (more e es) zero lt = (e, refl)
tree_within (more e es) (suc n) lt = tree_within es n (omega arith)

joined_left : (ds es : Trees) (n : ℕ) (e : Tree) → tree_at ds n ≡ Some e → tree_at (joined ds es) n ≡ Some e
joined_left none es n e h = let c : None ≡ Some e = h in absurd cc
joined_left (more d ds) es zero e h = h
joined_left (more d ds) es (suc n) e h = joined_left ds es n e h

joined_right : (ds es : Trees) (n : ℕ) → tree_at (joined ds es) (count ds + n) ≡ tree_at es n
joined_right none es n = let e : 0 + n ≡ n = omega arith in ap (tree_at es) e
joined_right (more d ds) es n =
    (let e : 1 + count ds + n ≡ suc (count ds + n) = omega arith in ap (tree_at (more d (joined ds es))) e)
    ∙ joined_right ds es n

pub count-joined : (ds es : Trees) → count (joined ds es) ≡ count ds + count es
count-joined none es = omega arith
count-joined (more d ds) es = let h = count-joined ds es in omega arith

pub count-locals : (o : Place) (j : ℕ) (xs : List ℕ) → count (locals o j xs) ≡ length xs
count-locals o j [] = refl
count-locals o j (x ∷ xs) = let h = count-locals o j xs in omega arith

local_at : (o : Place) (j : ℕ) (xs ys : List ℕ) (y : ℕ) → tree_at (locals o j (xs ++ y ∷ ys)) (length xs) ≡ Some (Node o j (Local y))
local_at o j [] ys y = refl
local_at o j (x ∷ xs) ys y = local_at o j xs ys y

numbers_split : (k a b : ℕ) → numbers_from k (a + b) ≡ numbers_from k a ++ numbers_from (k + a) b
numbers_split k zero b =
    let e : 0 + b ≡ b = omega arith in let f : k ≡ k + 0 = omega arith in
    ap (numbers_from k) e ∙ ap (λ n. numbers_from n b) f
numbers_split k (suc a) b =
    let e : suc a + b ≡ suc (a + b) = omega arith in let f : suc k + a ≡ k + suc a = omega arith in
    ap (numbers_from k) e ∙ ap (λ ns. k ∷ ns) (numbers_split (suc k) a b ∙ ap (λ n. numbers_from (suc k) a ++ numbers_from n b) f)

-- what is left for the target to evaluate by itself
abbrev pub left_work : M.Work T.TreeWork → ℕ
left_work (M.Own (Args p s (Direct l es) vs r)) = 2 * (count es - length vs)
left_work _ = 0

abbrev pub left_frames : Frames → ℕ
left_frames [] = 0
left_frames (f ∷ fs) = left_work f.work

abbrev pub left_control : Control Tree → Frames → ℕ
left_control (Eval e r) fs = 1 + left_frames fs
left_control (Val v) fs = left_frames fs
left_control _ fs = 0

abbrev pub left_state : TreeState → ℕ
left_state (Running c es) = left_control c.control c.frames
left_state _ = 0

-- the source goes on by one step at least, or waits where this much is left for the target
pub data Outcome (z : Pass) (bound : ℕ) (t s : TreeState) : Type 0 where
  moved : (k : ℕ) → StateRel z t (run (M.step (source_language z)) (suc k) s) → Outcome z bound t s
  waits : StateRel z t s → left_state t < bound → Outcome z bound t s

module _ (z : Pass) (fits : Fits z) where
  joined_uses : {i : ℕ} {es ds : Trees} (o : Place) (j : ℕ) (xs : List ℕ) → BecomeAll z i es ds → (n y : ℕ) →
      IsIn y (free_of_tree (target z) (tree_at (joined ds (locals o j xs)) n)) →
      Uses z [] (free_of_tree (source z) (tree_at es n)) y ⊎ IsIn y xs
  joined_uses o j [] all_end n y i = absurd i
  joined_uses o j (x ∷ xs) all_end zero y i = inr (⊎_elim inl (λ a. absurd a) i)
  joined_uses {i = b} o j (x ∷ xs) all_end (suc n) y i =
      ⊎_elim (λ u. inl u) (λ k. inr (inr k)) (joined_uses {i = b} o j xs all_end n y i)
  joined_uses o j xs (all_more a b) zero y i = inl (uses-tree z fits a y i)
  joined_uses o j xs (all_more a b) (suc n) y i = joined_uses o j xs b n y i

  added_past : (ds : Trees) (o : Place) (j : ℕ) (xs : List ℕ) (n y : ℕ) → count ds ≤ n →
      IsIn y (free_of_tree (target z) (tree_at (joined ds (locals o j xs)) n)) → IsIn y xs
  added_past none o j [] n y le i = absurd i
  added_past none o j (x ∷ xs) zero y le i = ⊎_elim inl (λ a. absurd a) i
  added_past none o j (x ∷ xs) (suc n) y le i = inr (added_past none o j xs n y (omega arith) i)
  added_past (more d ds) o j xs zero y le i = absurd (omega arith)
  added_past (more d ds) o j xs (suc n) y le i = added_past ds o j xs n y (omega arith) i

  added_numbers_in : (ds : Trees) (o : Place) (j : ℕ) (xs : List ℕ) (k a y : ℕ) → count ds ≤ k →
      IsIn y (free_of_numbers (target z) (joined ds (locals o j xs)) (numbers_from k a)) → IsIn y xs
  added_numbers_in ds o j xs k zero y le i = absurd i
  added_numbers_in ds o j xs k (suc a) y le i =
      ⊎_elim (added_past ds o j xs k y le) (added_numbers_in ds o j xs (suc k) a y (omega arith))
      (in-either y (free_of_tree (target z) (tree_at (joined ds (locals o j xs)) k)) _ i)

  -- what the operands that are left name
  direct_uses : {i : ℕ} {es ds : Trees} (f : Tree) (o : Place) (j l : ℕ) → BecomeAll z i es ds → (rest : List ℕ) (y : ℕ) →
      IsIn y (free_of_numbers (target z) (joined ds (locals o j (z.choice.added l))) (own_numbers rest ++ added_numbers z l es)) →
      Uses z (l ∷ []) (free_of_numbers (source z) (more f es) rest) y
  direct_uses {es = es} {ds = ds} f o j l b [] y i =
      let e = count-all z b in
      entered l (inl refl) (fits.sound l y
      (added_numbers_in ds o j (z.choice.added l) (count es) (length (z.choice.added l)) y (omega arith) i))
  direct_uses f o j l b (zero ∷ rest) y i = uses-right z (free_of_tree (source z) (Some f)) (direct_uses f o j l b rest y i)
  direct_uses {es = es} {ds = ds} f o j l b (suc n ∷ rest) y i =
      ⊎_elim
      (λ k. ⊎_elim (λ u. uses-left z _ (uses-any z u)) (λ h. entered l (inl refl) (fits.sound l y h))
      (joined_uses o j (z.choice.added l) b n y k))
      (λ k. uses-right z (free_of_tree (source z) (tree_at es n)) (direct_uses f o j l b rest y k))
      (in-either y (free_of_tree (target z) (tree_at (joined ds (locals o j (z.choice.added l))) n)) _ i)

  module _ (w : World) (c : TreeConfig) (p o : Place) (s j x l i : ℕ) (es ds : Trees) (ns : List ℕ)
      (known : z.choice.names x ≡ Some l) (lined : z.line s ≡ Some ns) (perm : IsPermutation ns (suc (count es)))
      (all : BecomeAll z i es ds) (m : Env) (fs hs : Frames) (out : List Event) (f : FramesRel z w fs hs) where
    abbrev source_form : Form
    source_form = Call (Node o j (Local x)) es

    abbrev target_form : Form
    target_form = Direct l (joined ds (locals o j (z.choice.added l)))

    target_numbers : numbers (z.line s) target_form ≡ own_numbers ns ++ added_numbers z l es
    target_numbers =
        let a = count-joined ds (locals o j (z.choice.added l)) in
        let b = count-locals o j (z.choice.added l) in
        let e = count-all z all in
        ap (λ line. T.direct_line line (count (joined ds (locals o j (z.choice.added l))))) lined
        ∙ direct-all ns (count (joined ds (locals o j (z.choice.added l)))) (count es) (length (z.choice.added l))
        (permutation-length ns (suc (count es)) perm) (omega arith)

    source_numbers : numbers (z.line s) source_form ≡ ns
    source_numbers = ap (λ line. T.line_or_written line (count (operands source_form))) lined

    source_left : (d : TreeConfig) (done rest : List ℕ) (us : List Value) (q : Env) → ns ≡ done ++ rest →
        length us ≡ length done →
        T.continue (source z) d p s source_form us q hs out ≡ T.operands_left (source z) d p s source_form us q ns rest hs out
    source_left d done rest us q whole long =
        ap (λ ks. T.operands_left (source z) d p s source_form us q ks (drop (length us) ks) hs out) source_numbers
        ∙ ap (λ ks. T.operands_left (source z) d p s source_form us q ns ks hs out)
        (ap (λ n. drop n ns) long ∙ (ap (drop (length done)) whole ∙ drop-front done rest))

    target_left : (front rest : List ℕ) (vs : List Value) (r : Env) → own_numbers ns ++ added_numbers z l es ≡ front ++ rest →
        length vs ≡ length front →
        T.continue (target z) c p s target_form vs r fs out ≡
        T.operands_left (target z) c p s target_form vs r (own_numbers ns ++ added_numbers z l es) rest fs out
    target_left front rest vs r whole long =
        ap (λ ks. T.operands_left (target z) c p s target_form vs r ks (drop (length vs) ks) fs out) target_numbers
        ∙ ap (λ ks. T.operands_left (target z) c p s target_form vs r (own_numbers ns ++ added_numbers z l es) ks fs out)
        (ap (λ n. drop n (own_numbers ns ++ added_numbers z l es)) long ∙ (ap (drop (length front)) whole ∙ drop-front front rest))

    -- all operands of the source have values: it enters the procedure
    source_enters : (d : TreeConfig) (us vs : List Value) (q : Env) → Ground z w c d → CallRel z w m l ns vs us →
        (location : ℕ) (values : List Value) → arranged 0 (length ns) ns us ≡ At location ∷ values →
        T.operands_left (source z) d p s source_form us q ns [] hs out ≡
        Running (record d { control = Entering (Closure location) values; frames = M.mark_top hs }) (M.emit out (Event.Enter l))
    source_enters d us vs q g h location values e =
        let r = passes z w m l ns (count es) [] perm h in
        let both : At r.location ∷ r.others ≡ At location ∷ values = sym r.in_source ∙ e in
        let at : r.location ≡ location = cc in
        let k = facts-of z w c.store d.store [] g.stores r.location (record { lambda = l; env = r.ready.old }) r.ready.fact in
        ap (λ ws. T.complete (source z) d p source_form ws q hs out) e
        ∙ ap (λ i. M.enter_at d p location i values hs out) (ap (slice_get d.store) (sym at) ∙ k.1)

    -- what the source holds while it waits
    abbrev pub Waiting : TreeConfig → List Value → Type 0
    Waiting d us = (k : ℕ) → IsIn k (values_locations us ++ (V.frames_locations T.work_values hs ++ values_locations d.globals)) →
        Reaches (sources z w d.store (roots_of z.statics d)) k
