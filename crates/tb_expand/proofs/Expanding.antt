-- Names, constants and definitions as the code makes them.
use Rattle.std.proofs.Common.{◌≡◌, ◌≢◌, refl, sym, ap, subst, ℕ, ◌==◌, true, false, ◌≤◌, arith, List, [], ◌∷◌, map, length, None}
use Rattle.std.proofs.lemmas.Bool.{eqb-true}
use Rattle.tb_prim.specs.declared.place.Place.{Place}
use Rattle.tb_sexp.specs.Tree as datum
use Rattle.tb_expand.specs.declared.context.Context.{Context}
use Rattle.tb_expand.specs.declared.refusal.ExpandRefusal.{ExpandRefusal}
use Rattle.tb_expand.specs.declared.shapes.Binder.{Binder as BinderCode}
use Rattle.tb_expand.specs.Names.{Binder, names, bound_twice}
use Rattle.tb_expand.specs.Trees.{variables, Node, At, Core, Constant}
use Rattle.tb_expand.specs.Scopes.{State}
use Rattle.tb_expand.specs.Limits.{Within, Past, opened, with_constant}
use Rattle.tb_expand.specs.Shapes.{Value}
use Rattle.tb_expand.specs.Expressions.{Constantly, Naming}
use Rattle.tb_expand.specs.Means.{bound_together}
use Rattle.tb_expand.specs.Means.{Means}
use Rattle.tb_expand.specs.Means.{a_constant, a_name}
use Rattle.tb_expand.specs.Means.{no_constant, no_objects, no_name}
use Rattle.tb_expand.specs.View.{Fails, data_of, pair_value, view_binder, binder_name, binder_variable}
use Rattle.tb_sexp.specs.View as data_view
use Rattle.tb_sexp.specs.declared.datum.Datum.{Datum}
use Rattle.tb_expand.specs.declared.shapes.Pair.{Pair as PairCode}
use Rattle.tb_expand.specs.calls.Expanded.{Gives, Denies, as_values, DefinitionsDenied, not_limited}
use Rattle.tb_expand.proofs.Scanning.{fails_as}

pub names_mapped : (bs : List BinderCode) → names (map view_binder bs) ≡ map binder_name bs
names_mapped [] = refl
names_mapped (b ∷ bs) = ap (λ xs. binder_name b ∷ xs) (names_mapped bs)

pub variables_mapped : (s : ℕ) (bs : List BinderCode) → variables s (names (map view_binder bs)) ≡ map (binder_variable s) bs
variables_mapped s [] = refl
variables_mapped s (b ∷ bs) = ap (λ xs. binder_variable s b ∷ xs) (variables_mapped s bs)

-- constants and names
pub constant_gives : (st mid st' : State) (c : Context) (p : Place) (t : datum.Shape) (e : Node) → opened p 1 0 st c ≡ Within mid → with_constant p t mid ≡ Within st' →
    e ≡ At p (Constant t) → Gives st c p (Constantly t) e st'
constant_gives st mid st' c p t e a b q = record { means = λ s k. subst (λ (e : Node). Means st c (datum.At p s) e st') (sym q) (a_constant k a b) }

pub constant_not_opened : (st : State) (c : Context) (p : Place) (t : datum.Shape) (r : ExpandRefusal) → Fails (λ q. opened p 1 0 st c ≡ Past q) r → Fails (Denies st c p (Constantly t)) r
constant_not_opened st c p t r f = fails_as (λ q. opened p 1 0 st c ≡ Past q) (Denies st c p (Constantly t)) (λ q a. record { refuses = λ s k. no_constant k a }) r f

pub constant_has_no_room : (st mid : State) (c : Context) (p : Place) (t : datum.Shape) (r : ExpandRefusal) → opened p 1 0 st c ≡ Within mid →
    Fails (λ q. with_constant p t mid ≡ Past q) r → Fails (Denies st c p (Constantly t)) r
constant_has_no_room st mid c p t r a f = fails_as (λ q. with_constant p t mid ≡ Past q) (Denies st c p (Constantly t)) (λ q b. record { refuses = λ s k. no_objects k a b }) r f

pub name_gives : (st st' : State) (c : Context) (p : Place) (x : Core) (e : Node) → opened p 1 0 st c ≡ Within st' → e ≡ At p x → Gives st c p (Naming x) e st'
name_gives st st' c p x e a q = record { means = λ s k. subst (λ (e : Node). Means st c (datum.At p s) e st') (sym q) (a_name k a) }

pub name_not_opened : (st : State) (c : Context) (p : Place) (x : Core) (r : ExpandRefusal) → Fails (λ q. opened p 1 0 st c ≡ Past q) r → Fails (Denies st c p (Naming x)) r
name_not_opened st c p x r f = fails_as (λ q. opened p 1 0 st c ≡ Past q) (Denies st c p (Naming x)) (λ q a. record { refuses = λ s k. no_name k a }) r f

-- bindings and definitions
pub values_mapped : (bs : List PairCode) → as_values (data_view.trees (map pair_value bs)) ≡ map (λ (b : PairCode). Value (pair_value b)) bs
values_mapped [] = refl
values_mapped (b ∷ bs) = ap (λ vs. Value (pair_value b) ∷ vs) (values_mapped bs)

pub some_data : (ds : List Datum) → false ≡ (length ds == 0) → data_of ds ≢ datum.none
some_data [] h = λ e. cc
some_data (d ∷ ds) h = λ e. cc

pub no_data : (ds : List Datum) → true ≡ (length ds == 0) → data_of ds ≡ datum.none
no_data [] h = refl
no_data (d ∷ ds) h = let e = eqb-true (length (d ∷ ds)) 0 (sym h) in absurd (omega arith)

pub two_data : (ds : List Datum) → false ≡ (length ds == 0) → length ds ≢ 1 → 2 ≤ length ds
two_data [] h n = cc
two_data (d ∷ []) h n = absurd (n refl)
two_data (d ∷ e ∷ ds) h n = omega arith

pub definitions_not_limited : (st : State) (c : Context) (p : Place) (bs : List Binder) (rest : datum.Trees) (r : ExpandRefusal) → bound_twice bs ≡ None → rest ≢ datum.none →
    Fails (λ q. bound_together p (length bs) st c ≡ Past q) r → Fails (DefinitionsDenied st c p bs rest) r
definitions_not_limited st c p bs rest r o b f = fails_as (λ q. bound_together p (length bs) st c ≡ Past q) (DefinitionsDenied st c p bs rest) (λ q a. not_limited o b a) r f
