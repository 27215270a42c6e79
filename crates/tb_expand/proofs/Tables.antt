-- Tables of first occurrences, as the walk over the nodes of a text makes them.
use Rattle.std.proofs.Common.{◌≡◌, refl, sym, ap, ◌∙◌, ℕ, ◌+◌, ◌==◌, ◌&&◌, ◌||◌, Bool, true, false, cond, if◌then◌else◌, List, [], ◌∷◌, ◌++◌, map, Option, Some, None, position, bytes_eq, arith}
use Rattle.std.specs.Borrow.{Bor}
use Rattle.std.specs.List.{list_any, position_from}
use Rattle.std.proofs.lemmas.Grind.{common_steps}
use Rattle.std.proofs.lemmas.Iterator.Adapters.{position_from-zero}
use Rattle.indexmap.specs.IndexSet.{insert_key}
use Rattle.tb_prim.specs.declared.place.Place.{Place}
use Rattle.tb_prim.specs.declared.primitive.Primitive.{Primitive}
use Rattle.tb_sexp.specs.Tree as datum
use Rattle.tb_expand.specs.Numbers.{Tables, noted, index, firsts_behind, variables_of, globals_of, variables_of_all, globals_of_all, tables_of, variable_number, global_number}
use Rattle.tb_expand.specs.Names.{same_name}
use Rattle.tb_expand.specs.Shapes.{option_list}
use Rattle.tb_expand.specs.Trees.{Var, same_var, Node, At, Core, Constant, Unspecified, Undefined, Local, Global, Lambda, If, SetLocal, SetGlobal, DefGlobal, Let, Letrec, Seq, Call, PrimUse, Apply}
use Rattle.tb_expand.specs.View.{nodes, text_of}
use Rattle.tb_expand.proofs.Views.{viewing}
use Rattle.tb_expand.specs.declared.numbers.tables.Key.{Key}
use Rattle.tb_expand.specs.declared.numbers.tables.Tables.{Tables as TablesCode}
use Rattle.tb_expand.specs.calls.Numbering.{view_key, view_tables, behind_names, seen_in, seen, seen_variable, seen_variables, seen_option, seen_global, seen_each}

module _ {K X : Type 0} (f : K → X) (eq : K → K → Bool) (same : X → X → Bool) (alike : (k l : K) → eq k l ≡ same (f k) (f l)) where
  -- a test of keys is a test of what they stand for
  pub any_mapped : (k : K) (ks : List K) → list_any (eq k) ks ≡ list_any (same (f k)) (map f ks)
  any_mapped k [] = refl
  any_mapped k (l ∷ ks) = rw (alike k l, any_mapped k ks) refl

  inserted_by : (ks : List K) (k : K) (b : Bool) → map f (if b then ks else ks ++ k ∷ []) ≡ cond b (map f ks) (map f ks ++ f k ∷ [])
  inserted_by ks k true = refl
  inserted_by ks k false = grind (arith, common_steps)

  -- a key that is inserted is noted
  pub noted_key : (ks : List K) (k : K) → map f (insert_key eq ks k) ≡ noted same (map f ks) (f k)
  noted_key ks k = inserted_by ks k (list_any (eq k) ks) ∙ ap (λ b. cond b (map f ks) (map f ks ++ f k ∷ [])) (any_mapped k ks)

  found_from : (k : K) (n : ℕ) (ks : List K) (i : ℕ) → position_from (eq k) n ks ≡ Some i → i ≡ n + index (same (f k)) (map f ks)
  found_from k n [] i h = cc
  found_from k n (l ∷ ks) i h = by (eq k l) refl (found_from k (n + 1) ks i)
    where
      by : (b : Bool) → eq k l ≡ b → (position_from (eq k) (n + 1) ks ≡ Some i → i ≡ (n + 1) + index (same (f k)) (map f ks)) → i ≡ n + index (same (f k)) (map f (l ∷ ks))
      by true e rest =
          let s : same (f k) (f l) ≡ true = sym (alike k l) ∙ e in
          let here : Some n ≡ Some i = ap (λ b. cond b (Some n) (position_from (eq k) (n + 1) ks)) (sym e) ∙ h in
          let at : n ≡ i = cc in
          rw s (omega (arith, at))
      by false e rest =
          let s : same (f k) (f l) ≡ false = sym (alike k l) ∙ e in
          let behind = rest (ap (λ b. cond b (Some n) (position_from (eq k) (n + 1) ks)) (sym e) ∙ h) in
          rw s (omega (arith, behind))

  -- the place of a key that is found is its index
  pub found_index : (k : K) (ks : List K) (i : ℕ) → position (eq k) ks ≡ Some i → i ≡ index (same (f k)) (map f ks)
  found_index k ks i h = let e = found_from k 0 ks i (sym (position_from-zero (eq k) ks) ∙ h) in omega (arith, e)

-- first occurrences of two lists, one after the other
pub firsts-append : {X : Type 0} (same : X → X → Bool) (xs ys zs : List X) → firsts_behind same xs (ys ++ zs) ≡ firsts_behind same (firsts_behind same xs ys) zs
firsts-append same xs [] zs = refl
firsts-append same xs (y ∷ ys) zs = firsts-append same (noted same xs y) ys zs

behind-append : (t : Tables) (xs ys : List Var) (gs hs : List (List ℕ)) → behind_names t (xs ++ ys) (gs ++ hs) ≡ behind_names (behind_names t xs gs) ys hs
behind-append t xs ys gs hs =
    ap (λ vs. record { variables = vs; globals = firsts_behind bytes_eq t.globals (gs ++ hs) }) (firsts-append same_var t.variables xs ys)
    ∙ ap (λ g. record { variables = firsts_behind same_var (firsts_behind same_var t.variables xs) ys; globals = g }) (firsts-append bytes_eq t.globals gs hs)

-- keys are equal where their variables are, and texts where their bytes are
pub key_alike : (k l : Key) → (k.scope == l.scope) && (bytes_eq k.text.now l.text.now && (k.alias == l.alias)) ≡ same_var (view_key k) (view_key l)
unfolding same_name
key_alike k l = refl

abbrev pub key_eq : Key → Key → Bool
key_eq k l = (k.scope == l.scope) && (bytes_eq k.text.now l.text.now && (k.alias == l.alias))

abbrev pub text_eq : Bor (List ℕ) → Bor (List ℕ) → Bool
text_eq g h = bytes_eq g.now h.now

-- a variable that is put in the table is noted, and so is a global
pub variable_noted : (t : TablesCode) (ks : List Key) (k : Key) (x : Var) → ks ≡ insert_key key_eq t.variables.keys k → view_key k ≡ x →
    record { variables = map view_key ks; globals = map text_of t.globals.keys } ≡ seen_variable (view_tables t) x
unfolding seen_variable view_tables
variable_noted t ks k x e v =
    ap (λ vs. record { variables = vs; globals = map text_of t.globals.keys })
    (ap (map view_key) e ∙ noted_key view_key key_eq same_var key_alike t.variables.keys k ∙ ap (noted same_var (map view_key t.variables.keys)) v)

pub global_noted : (t : TablesCode) (gs : List (Bor (List ℕ))) (g : Bor (List ℕ)) → gs ≡ insert_key text_eq t.globals.keys g →
    record { variables = map view_key t.variables.keys; globals = map text_of gs } ≡ seen_global (view_tables t) g.now
unfolding seen_global view_tables
global_noted t gs g e =
    ap (λ hs. record { variables = map view_key t.variables.keys; globals = hs })
    (ap (map text_of) e ∙ noted_key text_of text_eq bytes_eq (λ k l. refl) t.globals.keys g)

seen_listed : (t : Tables) (xs : List Var) → behind_names t xs [] ≡ seen_variables t xs
unfolding seen_variable
seen_listed t [] = refl
seen_listed t (x ∷ xs) = seen_listed (behind_names t (x ∷ []) []) xs

seen_optional : (t : Tables) (r : Option Var) → behind_names t (option_list r) [] ≡ seen_option t r
unfolding seen_variable
seen_optional t None = refl
seen_optional t (Some x) = refl

seen_all : (t : Tables) (es : List Node) → behind_names t (variables_of_all (nodes es)) (globals_of_all (nodes es)) ≡ seen_each t es
unfolding seen
seen_all t [] = refl
seen_all t (e ∷ es) =
    behind-append t (variables_of e) (variables_of_all (nodes es)) (globals_of e) (globals_of_all (nodes es))
    ∙ seen_all (behind_names t (variables_of e) (globals_of e)) es

-- what is seen in a node, by its form
pub seen-node : (t : Tables) (p : Place) (c : Core) → seen t (At p c) ≡ seen_in t c
unfolding seen seen_in
seen-node t p c = refl

pub seen-constant : (t : Tables) (s : datum.Shape) → seen_in t (Constant s) ≡ t
unfolding seen_in
seen-constant t s = refl

pub seen-unspecified : (t : Tables) → seen_in t Unspecified ≡ t
unfolding seen_in
seen-unspecified t = refl

pub seen-undefined : (t : Tables) → seen_in t Undefined ≡ t
unfolding seen_in
seen-undefined t = refl

pub seen-local : (t : Tables) (x : Var) → seen_in t (Local x) ≡ seen_variable t x
unfolding seen_in seen_variable
seen-local t x = refl

pub seen-global : (t : Tables) (g : List ℕ) → seen_in t (Global g) ≡ seen_global t g
unfolding seen_in seen_global
seen-global t g = refl

pub seen-lambda : (t : Tables) (xs : List Var) (r : Option Var) (e : Node) → seen_in t (Lambda xs r e) ≡ seen (seen_option (seen_variables t xs) r) e
unfolding seen seen_in
seen-lambda t xs r e =
    behind-append t (xs ++ option_list r) (variables_of e) [] (globals_of e)
    ∙ ap (λ u. behind_names u (variables_of e) (globals_of e)) (behind-append t xs (option_list r) [] [] ∙ seen_optional (behind_names t xs []) r ∙ ap (λ u. seen_option u r) (seen_listed t xs))

pub seen-if : (t : Tables) (a b c : Node) → seen_in t (If a b c) ≡ seen (seen (seen t a) b) c
unfolding seen seen_in
seen-if t a b c =
    behind-append t (variables_of a) (variables_of b ++ variables_of c) (globals_of a) (globals_of b ++ globals_of c)
    ∙ behind-append (seen t a) (variables_of b) (variables_of c) (globals_of b) (globals_of c)

pub seen-set_local : (t : Tables) (x : Var) (e : Node) → seen_in t (SetLocal x e) ≡ seen (seen_variable t x) e
unfolding seen seen_in seen_variable
seen-set_local t x e = behind-append t (x ∷ []) (variables_of e) [] (globals_of e)

pub seen-set_global : (t : Tables) (q : Place) (g : List ℕ) (e : Node) → seen_in t (SetGlobal q g e) ≡ seen (seen_global t g) e
unfolding seen seen_in seen_global
seen-set_global t q g e = behind-append t [] (variables_of e) (g ∷ []) (globals_of e)

pub seen-def_global : (t : Tables) (g : List ℕ) (e : Node) → seen_in t (DefGlobal g e) ≡ seen (seen_global t g) e
unfolding seen seen_in seen_global
seen-def_global t g e = behind-append t [] (variables_of e) (g ∷ []) (globals_of e)

seen_binding : (t : Tables) (xs : List Var) (es : List Node) (e : Node) →
    behind_names t (xs ++ (variables_of_all (nodes es) ++ variables_of e)) (globals_of_all (nodes es) ++ globals_of e) ≡ seen (seen_each (seen_variables t xs) es) e
unfolding seen
seen_binding t xs es e =
    behind-append t xs (variables_of_all (nodes es) ++ variables_of e) [] (globals_of_all (nodes es) ++ globals_of e)
    ∙ behind-append (behind_names t xs []) (variables_of_all (nodes es)) (variables_of e) (globals_of_all (nodes es)) (globals_of e)
    ∙ ap (λ u. behind_names u (variables_of e) (globals_of e)) (seen_all (behind_names t xs []) es ∙ ap (λ u. seen_each u es) (seen_listed t xs))

pub seen-let : (t : Tables) (xs : List Var) (es : List Node) (e : Node) → seen_in t (Let xs (nodes es) e) ≡ seen (seen_each (seen_variables t xs) es) e
unfolding seen_in
seen-let t xs es e = seen_binding t xs es e

pub seen-letrec : (t : Tables) (xs : List Var) (es : List Node) (e : Node) → seen_in t (Letrec xs (nodes es) e) ≡ seen (seen_each (seen_variables t xs) es) e
unfolding seen_in
seen-letrec t xs es e = seen_binding t xs es e

pub seen-seq : (t : Tables) (es : List Node) → seen_in t (Seq (nodes es)) ≡ seen_each t es
unfolding seen_in
seen-seq t es = seen_all t es

pub seen-call : (t : Tables) (f : Node) (es : List Node) → seen_in t (Call f (nodes es)) ≡ seen_each (seen t f) es
unfolding seen seen_in
seen-call t f es =
    behind-append t (variables_of f) (variables_of_all (nodes es)) (globals_of f) (globals_of_all (nodes es)) ∙ seen_all (seen t f) es

pub seen-prim : (t : Tables) (q : Primitive) (es : List Node) → seen_in t (PrimUse q (nodes es)) ≡ seen_each t es
unfolding seen_in
seen-prim t q es = seen_all t es

pub seen-apply : (t : Tables) (f l : Node) → seen_in t (Apply f l) ≡ seen (seen t f) l
unfolding seen seen_in
seen-apply t f l = behind-append t (variables_of f) (variables_of l) (globals_of f) (globals_of l)

pub ruleset seen_by_form = (seen-node, seen-constant, seen-unspecified, seen-undefined, seen-local, seen-global, seen-lambda, seen-if, seen-set_local, seen-set_global, seen-def_global, seen-let, seen-letrec, seen-seq, seen-call, seen-prim, seen-apply)

pub ruleset seeing = (common_steps, arith, viewing, seen_by_form)

-- the tables of a text
pub seen_whole : (es : List Node) → seen_each (record { variables = []; globals = [] }) es ≡ tables_of (nodes es)
seen_whole es = sym (seen_all (record { variables = []; globals = [] }) es)

-- a key that is found has the number of its variable, and a global that of its name
pub variable_found : (t : TablesCode) (k : Key) (x : Var) (i : ℕ) → Some i ≡ position (key_eq k) t.variables.keys → view_key k ≡ x → i ≡ variable_number (view_tables t) x
unfolding view_tables
variable_found t k x i e v =
    found_index view_key key_eq same_var key_alike k t.variables.keys i (sym e) ∙ ap (λ y. index (same_var y) (map view_key t.variables.keys)) v

pub global_found : (t : TablesCode) (g : Bor (List ℕ)) (i : ℕ) → Some i ≡ position (text_eq g) t.globals.keys → i ≡ global_number (view_tables t) g.now
unfolding view_tables
global_found t g i e = found_index text_of text_eq bytes_eq (λ k l. refl) g t.globals.keys i (sym e)

abbrev pub whole : List Var → List (List ℕ) → Tables
whole xs gs = record { variables = xs; globals = gs }

-- the tables at the start
pub no_tables : (ks : List Key) (gs : List (Bor (List ℕ))) → ks ≡ [] → gs ≡ [] →
    whole (map view_key ks) (map text_of gs) ≡ whole [] []
no_tables ks gs k g = rw (k, g) refl
