-- Static objects, as the walk over quoted data makes them.
use Rattle.std.proofs.Common.{◌≡◌, refl, sym, ap, subst, ◌∙◌, ℕ, ℤ, suc, ◌+◌, ◌==◌, nat_eq, add-one, eqb-true, eq-eqb, ne_eqb, ◌||◌, Bool, true, false, cond, if◌then◌else◌, List, [], ◌∷◌, ◌++◌, length, Option, Some, None, bytes_eq, arith}
use Rattle.std.proofs.lemmas.Bool.{eqb-false}
use Rattle.std.proofs.lemmas.Slice.Eq.{bytes_eq-Decides}
use Rattle.std.proofs.lemmas.Grind.{common_steps}
use Rattle.std.specs.Borrow.{Bor}
use Rattle.std.specs.List.{list_any}
use Rattle.std.specs.Map.{lookup}
use Rattle.indexmap.specs.IndexMap.{IndexMap, get}
use Rattle.tb_prim.specs.declared.constant.Const.{Const}
use Rattle.tb_prim.specs.declared.constant.Static.{Static}
use Rattle.tb_sexp.specs.declared.datum.Datum.{Datum}
use Rattle.tb_sexp.specs.declared.datum.Node.TheFolds.{fold-roll-Node, fold_out-Datum}
use Rattle.tb_sexp.specs.declared.datum.Node.TheOpen.{Node-F}
use Rattle.tb_sexp.specs.declared.datum.Node.TheVariants as node
use Rattle.tb_sexp.specs.declared.datum.Node.TheVariants.{rolls-List, rolls-Nil, rolls-Bool, rolls-Fix, rolls-Char, rolls-Str, rolls-Name, rolls-Vector}
use Rattle.tb_sexp.specs.Tree as datum
use Rattle.tb_sexp.specs.View.{view, view_node, view_in, view_at}
use Rattle.tb_expand.specs.Numbers.{Placed, unplaced, finished_object, is_symbol, index, placed, placed_symbol, placed_pairs, placed_all}
use Rattle.tb_expand.specs.View.{data_of}
use Rattle.tb_expand.proofs.Counts.{view_dotted}
use Rattle.tb_expand.specs.calls.Placing.{text_eq, symbol_number, KnowsSymbols, IsNoSymbol, pairs_behind}

-- the number of an object behind others
one_behind : (x : List ℕ) (o : List Static) (s : Static) (b : Bool) → is_symbol x s ≡ b →
    symbol_number (o ++ s ∷ []) x ≡ cond (list_any (is_symbol x) o) (symbol_number o x) (cond b (Some (length o)) None)
unfolding symbol_number
one_behind x [] s true e = rw e refl
one_behind x [] s false e = rw e refl
one_behind x (y ∷ o) s b e = behind_first (is_symbol x y) (list_any (is_symbol x) o) (list_any (is_symbol x) (o ++ s ∷ [])) b _ _ (length o) (one_behind x o s b e)
  where
    behind_first : (a d f b : Bool) (i j n : ℕ) → cond f (Some i) None ≡ cond d (cond d (Some j) None) (cond b (Some n) None) →
        cond (a || f) (Some (cond a 0 (i + 1))) None ≡ cond (a || d) (cond (a || d) (Some (cond a 0 (j + 1))) None) (cond b (Some (suc n)) None)
    behind_first true d f b i j n k = refl
    behind_first false true true b i j n k = let e : i ≡ j = cc in ap (λ m. Some (m + 1)) e
    behind_first false true false b i j n k = cc
    behind_first false false true true i j n k = let e : i ≡ n = cc in ap (λ m. Some (m + 1)) e ∙ ap (λ m. Some m) (add-one n)
    behind_first false false true false i j n k = cc
    behind_first false false false true i j n k = cc
    behind_first false false false false i j n k = refl

none_there : (x : List ℕ) (o : List Static) → symbol_number o x ≡ None → list_any (is_symbol x) o ≡ false
unfolding symbol_number
none_there x o h = by (list_any (is_symbol x) o) h
  where
    by : (b : Bool) → cond b (Some (index (is_symbol x) o)) None ≡ None → b ≡ false
    by true k = cc
    by false k = refl

other_behind : (x : List ℕ) (o : List Static) (s : Static) → is_symbol x s ≡ false → symbol_number (o ++ s ∷ []) x ≡ symbol_number o x
unfolding symbol_number
other_behind x o s e = one_behind x o s false e ∙ by (list_any (is_symbol x) o)
  where
    by : (b : Bool) → cond b (cond b (Some (index (is_symbol x) o)) None) None ≡ cond b (Some (index (is_symbol x) o)) None
    by true = refl
    by false = refl

no_symbol : (x : List ℕ) (s : Static) → IsNoSymbol s → is_symbol x s ≡ false
no_symbol x (Static.Pair a b) h = refl
no_symbol x (Static.Vector cs) h = refl
no_symbol x (Static.Str t) h = refl
no_symbol x (Static.Sym t) h = absurd h

-- an object that is no symbol changes no number of a symbol
pub knows_other : {S : Type 0} (b : Bool) (o : List Static) (s : Static) (m : IndexMap (Bor (List ℕ)) ℕ S) → KnowsSymbols o m → IsNoSymbol s →
    KnowsSymbols (if b then o ++ s ∷ [] else o) m
knows_other true o s m k h = record { known = λ g. k.known g ∙ sym (other_behind g.now o s (no_symbol g.now s h)) }
knows_other false o s m k h = k

eqb_swapped : (x y : ℕ) → nat_eq x y ≡ nat_eq y x
eqb_swapped x y = by (x == y) refl
  where
    by : (b : Bool) → (x == y) ≡ b → nat_eq x y ≡ nat_eq y x
    by true e = e ∙ sym (eq-eqb y x (sym (eqb-true x y e)))
    by false e = e ∙ sym (ne_eqb y x (λ h. eqb-false x y e (sym h)))

bytes_swapped : (xs ys : List ℕ) → bytes_eq xs ys ≡ bytes_eq ys xs
bytes_swapped [] [] = refl
bytes_swapped [] (y ∷ ys) = refl
bytes_swapped (x ∷ xs) [] = refl
bytes_swapped (x ∷ xs) (y ∷ ys) = rw (bytes_swapped xs ys, eqb_swapped x y) refl

same_number : (o : List Static) (xs ys : List ℕ) → bytes_eq xs ys ≡ true → symbol_number o xs ≡ symbol_number o ys
same_number o xs ys e = let d = bytes_eq-Decides xs ys in ap (symbol_number o) (d.0 e)

-- a new symbol has the next number
pub knows_symbol : {S : Type 0} (o : List Static) (g : Bor (List ℕ)) (m n : IndexMap (Bor (List ℕ)) ℕ S) → KnowsSymbols o m → None ≡ get text_eq m g →
    ((h : Bor (List ℕ)) → get text_eq n h ≡ cond (text_eq g h) (Some (length o)) (get text_eq m h)) → KnowsSymbols (o ++ Static.Sym g.now ∷ []) n
knows_symbol o g m n k none new = record { known = λ h. by h (text_eq g h) refl }
  where
    by : (h : Bor (List ℕ)) (b : Bool) → text_eq g h ≡ b → get text_eq n h ≡ symbol_number (o ++ Static.Sym g.now ∷ []) h.now
    by h true e =
        new h ∙ ap (λ b. cond b (Some (length o)) (get text_eq m h)) e
        ∙ sym (one_behind h.now o (Static.Sym g.now) true (bytes_swapped h.now g.now ∙ e)
        ∙ ap (λ b. cond b (symbol_number o h.now) (Some (length o))) (none_there h.now o (sym (same_number o g.now h.now e) ∙ sym (k.known g) ∙ sym none)))
    by h false e =
        new h ∙ ap (λ b. cond b (Some (length o)) (get text_eq m h)) e ∙ k.known h
        ∙ sym (other_behind h.now o (Static.Sym g.now) (bytes_swapped h.now g.now ∙ e))

pub knows_same : {S : Type 0} (o p : List Static) (m n : IndexMap (Bor (List ℕ)) ℕ S) → KnowsSymbols o m → p ≡ o → n.entries ≡ m.entries → KnowsSymbols p n
knows_same o p m n k e f = record { known = λ g. ap (lookup (text_eq g)) f ∙ k.known g ∙ ap (λ (q : List Static). symbol_number q g.now) (sym e) }

pub knows_none : {S : Type 0} (o : List Static) (m : IndexMap (Bor (List ℕ)) ℕ S) → o ≡ [] → m.entries ≡ [] → KnowsSymbols o m
unfolding symbol_number
knows_none o m e f = record { known = λ g. ap (lookup (text_eq g)) f ∙ ap (λ (q : List Static). symbol_number q g.now) (sym e) }

-- the same as the code puts it
pub knows_pushed : {S : Type 0} (b : Bool) (o p q : List Static) (g : Bor (List ℕ)) (s : List ℕ) (i : ℕ) (m n : IndexMap (Bor (List ℕ)) ℕ S) →
    KnowsSymbols o m → None ≡ get text_eq m g → ((h : Bor (List ℕ)) → get text_eq n h ≡ cond (text_eq g h) (Some i) (get text_eq m h)) →
    i ≡ length o → s ≡ g.now → p ≡ o → b ≡ true → q ≡ (if b then p ++ Static.Sym s ∷ [] else p) → KnowsSymbols q n
knows_pushed b o p q g s i m n k none new at text same ok pushed =
    let whole = pushed ∙ ap (λ c. if c then p ++ Static.Sym s ∷ [] else p) ok ∙ ap (λ l. l ++ Static.Sym s ∷ []) same ∙ ap (λ t. o ++ Static.Sym t ∷ []) text in
    knows_same _ q n n (knows_symbol o g m n k none (λ h. new h ∙ ap (λ j. cond (text_eq g h) (Some j) (get text_eq m h)) at)) whole refl

-- a symbol that is there has its number
pub symbol_there : {S : Type 0} (o : List Static) (g : Bor (List ℕ)) (m : IndexMap (Bor (List ℕ)) ℕ S) (i : ℕ) → KnowsSymbols o m → Some i ≡ get text_eq m g →
    unplaced o (Const.Stat i) ≡ placed_symbol (list_any (is_symbol g.now) o) o g.now
unfolding symbol_number
symbol_there o g m i k h = by (list_any (is_symbol g.now) o) (h ∙ k.known g)
  where
    by : (b : Bool) → Some i ≡ cond b (Some (index (is_symbol g.now) o)) None → unplaced o (Const.Stat i) ≡ placed_symbol b o g.now
    by true e = let same : i ≡ index (is_symbol g.now) o = cc in ap (λ j. unplaced o (Const.Stat j)) same
    by false e = cc

-- a symbol that is not there is a new object
pub symbol_new : {S : Type 0} (o : List Static) (g : Bor (List ℕ)) (m : IndexMap (Bor (List ℕ)) ℕ S) → KnowsSymbols o m → None ≡ get text_eq m g →
    finished_object o (Static.Sym g.now) ≡ placed_symbol (list_any (is_symbol g.now) o) o g.now
symbol_new o g m k h = ap (λ b. placed_symbol b o g.now) (sym (none_there g.now o (sym (k.known g) ∙ sym h)))

-- data by their forms
pub view_datum : (d : Datum) → view d ≡ datum.At d.place (view_node d.node)
view_datum d = fold_out-Datum datum.Shape datum.Tree view_in view_at d

pub view_nil : view_node node.Nil ≡ datum.Nil
view_nil = ap view_node (sym rolls-Nil) ∙ fold-roll-Node datum.Shape datum.Tree view_in view_at Node-F.Nil

pub view_bool : (b : Bool) → view_node (node.Bool b) ≡ datum.Truth b
view_bool b = ap view_node (sym (rolls-Bool b)) ∙ fold-roll-Node datum.Shape datum.Tree view_in view_at (Node-F.Bool b)

pub view_fix : (n : ℤ) → view_node (node.Fix n) ≡ datum.Fixnum n
view_fix n = ap view_node (sym (rolls-Fix n)) ∙ fold-roll-Node datum.Shape datum.Tree view_in view_at (Node-F.Fix n)

pub view_char : (n : ℕ) → view_node (node.Char n) ≡ datum.Character n
view_char n = ap view_node (sym (rolls-Char n)) ∙ fold-roll-Node datum.Shape datum.Tree view_in view_at (Node-F.Char n)

pub view_str : (s : List ℕ) → view_node (node.Str s) ≡ datum.String s
view_str s = ap view_node (sym (rolls-Str s)) ∙ fold-roll-Node datum.Shape datum.Tree view_in view_at (Node-F.Str s)

pub view_name : (s : List ℕ) (a : ℕ) → view_node (node.Name s a) ≡ datum.Name s a
view_name s a = ap view_node (sym (rolls-Name s a)) ∙ fold-roll-Node datum.Shape datum.Tree view_in view_at (Node-F.Name s a)

pub view_proper : (ds : List Datum) → view_node (node.List ds None) ≡ datum.Proper (data_of ds)
view_proper ds = ap view_node (sym (rolls-List ds None)) ∙ fold-roll-Node datum.Shape datum.Tree view_in view_at (Node-F.List ds None)

pub view_vector : (ds : List Datum) → view_node (node.Vector ds) ≡ datum.Vector (data_of ds)
view_vector ds = ap view_node (sym (rolls-Vector ds)) ∙ fold-roll-Node datum.Shape datum.Tree view_in view_at (Node-F.Vector ds)

-- elements one after another, and then the pairs from the last on
pub pairs_placed : (o : List Static) (ds : datum.Trees) (tail : List Static → Placed) →
    placed_pairs o ds tail ≡ pairs_behind (placed_all o ds).constants (tail (placed_all o ds).statics)
pairs_placed o datum.none tail = refl
pairs_placed o (datum.more d ds) tail =
    ap (λ (r : Placed). finished_object r.statics (Static.Pair (placed o d).constant r.constant)) (pairs_placed (placed o d).statics ds tail)

pub pairs_pushed : (cs : List Const) (c : Const) (p : Placed) → pairs_behind (cs ++ c ∷ []) p ≡ pairs_behind cs (finished_object p.statics (Static.Pair c p.constant))
pairs_pushed [] c p = refl
pairs_pushed (d ∷ cs) c p = ap (λ (r : Placed). finished_object r.statics (Static.Pair d r.constant)) (pairs_pushed cs c p)

pub ruleset data_viewed = (view_datum, view_nil, view_bool, view_fix, view_char, view_str, view_name, view_proper, view_dotted, view_vector)

pub ruleset placing = (common_steps, arith, data_viewed, pairs_placed, pairs_pushed)
