-- The static objects that were counted for a text weigh as much as its quoted data, in which each symbol weighs once.
use Rattle.std.proofs.Common.{◌≡◌, refl, sym, ap, subst, ◌∙◌, ℕ, ◌+◌, ◌≤◌, ◌||◌, nat_le, arith, not, Bool, true, false, cond, List, [], ◌∷◌, ◌++◌, length, bytes_eq}
use Rattle.std.specs.List.{list_any}
use Rattle.std.proofs.lemmas.Bool.{leb-true}
use Rattle.std.proofs.lemmas.List.Folds.{list_any-append}
use Rattle.std.proofs.lemmas.Slice.Eq.{bytes_eq-Decides}
use Rattle.tb_prim.specs.declared.place.Place.{Place}
use Rattle.tb_sexp.specs.Tree as datum
use Rattle.tb_expand.specs.declared.context.Context.{Context}
use Rattle.tb_expand.specs.Names.{Name, names}
use Rattle.tb_expand.specs.Trees.{variables, Node, Nodes, nil, cons}
use Rattle.tb_expand.specs.Splits.{split}
use Rattle.tb_expand.specs.Refusals.{Budget}
use Rattle.tb_expand.specs.Scopes.{State, fresh, enter}
use Rattle.tb_expand.specs.Closed.{one_if}
use Rattle.tb_expand.specs.Limits.{Limited, Within, counted, opened, even, byte_words, one_object, symbol_object, how_many_data, with_objects, with_objects_of, with_pairs, with_each, has_room, with_constant}
use Rattle.tb_expand.specs.Shapes.{Formals, parameters, Defined}
use Rattle.tb_expand.specs.Expressions.{follows}
use Rattle.tb_expand.specs.Means.{lambda_nodes, bound_together, finished, Means, MeansAll, MeansSequence, MeansLambda, MeansDefined, MeansEach, MeansBody}
use Rattle.tb_expand.specs.Means.{a_constant, a_name, operands, a_sequence, a_lambda, a_let, a_letrec, no_more, one_more, alone, several, closure, a_value, a_procedure, none_defined, one_defined, plain_body, defining_body}
use Rattle.tb_expand.specs.Texts.{no_state, MeansForm, MeansForms, MeansText, an_expression, a_global, forms_of_begin, no_form, one_form, a_text}
use Rattle.tb_expand.specs.Numbers.{statics_of_all, program_of}
use Rattle.tb_expand.specs.StaticWords.{words_of_statics}
use Rattle.tb_expand.proofs.FirstOccurrences.{or_left, or_right}
use Rattle.tb_expand.proofs.FewStatics.{statics_weigh, statics_light, weigh_ones, weigh_words}
use Rattle.tb_expand.proofs.GoodExpressions.{IsGood, good_expression}
use Rattle.tb_expand.proofs.NodeWeights.{weigh, weigh_all, split_weighs, WeighsAs, built_weighs, name_weighs, joined_weighs}
use Rattle.tb_expand.proofs.QuotedWeights.{scaled, most, symbols_weigh, plain, plain_in, plain_pairs, plain_each, unknown, unknown_in, unknown_each}
use Rattle.tb_expand.proofs.ShortConstants.{both_true, within_one}
use Rattle.tb_expand.proofs.ShortMeanings.{Leaves, counted_leaves, opened_leaves, bound_leaves, finished_leaves, scan_leaves}

-- what was counted: words, or objects
abbrev amount : Bool → State → ℕ
amount words st = cond words st.words st.objects

-- symbols that are all among these
abbrev Among : List (List ℕ) → List (List ℕ) → Type 0
Among ss all = (s : List ℕ) → list_any (bytes_eq s) ss ≡ true → list_any (bytes_eq s) all ≡ true

-- so much more was counted, and the symbols that were added; none of the names is unknown
record Adds (words : Bool) (all : List (List ℕ)) (n u : ℕ) (st st' : State) : Type 0 where
  pub amounts : amount words st + symbols_weigh words st'.symbols + n ≤ amount words st' + symbols_weigh words st.symbols
  pub known : u ≡ 0
  pub among : Among st.symbols all

-- the same within the limits
record Reads (words : Bool) (all : List (List ℕ)) (n u : ℕ) (st st' : State) : Type 0 where
  pub adds : Adds words all n u st st'
  pub room : amount words st ≤ most words → amount words st' ≤ most words

object_counted : (words : Bool) (n m w : ℕ) → cond words (n + w) (m + 1) ≡ cond words n m + scaled words w
object_counted true n m w = refl
object_counted false n m w = refl

weigh_added : (words : Bool) (ss : List (List ℕ)) (s : List ℕ) → symbols_weigh words (ss ++ s ∷ []) ≡ symbols_weigh words ss + scaled words (byte_words s)
weigh_added words [] s = omega arith
weigh_added words (x ∷ ss) s = let h = weigh_added words ss s in omega arith

enough : (words : Bool) (n m : ℕ) → n ≤ 4194304 → m ≤ 1000000 → cond words n m ≤ most words
enough true n m h k = h
enough false n m h k = k

module _ (words : Bool) (all : List (List ℕ)) where
  adds_nothing : (st : State) → Among st.symbols all → Adds words all 0 0 st st
  adds_nothing st h = record { amounts = omega arith; known = refl; among = h }

  adds_too : {n u m v : ℕ} {st mid st' : State} → Adds words all n u st mid → Adds words all m v mid st' → Adds words all (n + m) (u + v) st st'
  adds_too a b =
      let x = a.amounts in
      let y = b.amounts in
      let i = a.known in
      let j = b.known in
      record { amounts = omega arith; known = omega arith; among = a.among }

  adds_object : (w : ℕ) (st : State) → Among st.symbols all → Adds words all (scaled words w) 0 st (one_object w st)
  adds_object w st h = let k = object_counted words st.words st.objects w in record { amounts = omega arith; known = refl; among = h }

  adds_behind : {n u : ℕ} {st' : State} (w : ℕ) (st : State) → Adds words all n u (one_object w st) st' → Adds words all (scaled words w + n) u st st'
  adds_behind w st a =
      let k = object_counted words st.words st.objects w in
      let x = a.amounts in
      record { amounts = omega arith; known = a.known; among = a.among }

  adds_symbol : (b : Bool) (s : List ℕ) (st : State) → list_any (bytes_eq s) st.symbols ≡ b → Among (symbol_object b s st).symbols all → Adds words all 0 (one_if (not (list_any (bytes_eq s) all))) st (symbol_object b s st)
  adds_symbol true s st e h = record { amounts = omega arith; known = ap (λ b. one_if (not b)) (h s e); among = h }
  adds_symbol false s st e h =
      let k = object_counted words st.words st.objects (byte_words s) in
      let w = weigh_added words st.symbols s in
      let new : list_any (bytes_eq s) (s ∷ []) ≡ true = ap (λ b. b || false) ((bytes_eq-Decides s s).1 refl) in
      let i = list_any-append (bytes_eq s) st.symbols (s ∷ []) ∙ or_right (list_any (bytes_eq s) st.symbols) (list_any (bytes_eq s) (s ∷ [])) new in
      record {
        amounts = omega arith;
        known = ap (λ b. one_if (not b)) (h s i);
        among = λ x j. h x (list_any-append (bytes_eq x) st.symbols (s ∷ []) ∙ or_left (list_any (bytes_eq x) st.symbols) (list_any (bytes_eq x) (s ∷ [])) j);
      }

  mutual
    adds_datum : (d : datum.Tree) (st : State) → Among (with_objects d st).symbols all → Adds words all (plain words d) (unknown all d) st (with_objects d st)
    adds_datum (datum.At p s) st h = adds_shape s st h

    adds_shape : (s : datum.Shape) (st : State) → Among (with_objects_of s st).symbols all → Adds words all (plain_in words s) (unknown_in all s) st (with_objects_of s st)
    adds_shape datum.Nil st h = adds_nothing st h
    adds_shape (datum.Truth b) st h = adds_nothing st h
    adds_shape (datum.Fixnum n) st h = adds_nothing st h
    adds_shape (datum.Character c) st h = adds_nothing st h
    adds_shape (datum.String s) st h = adds_object (byte_words s) st h
    adds_shape (datum.Name s alias) st h = adds_symbol (list_any (bytes_eq s) st.symbols) s st refl h
    adds_shape (datum.Proper ds) st h = adds_pairs ds st h
    adds_shape (datum.Dotted ds d) st h = let b = adds_datum d (with_pairs ds st) h in adds_too (adds_pairs ds st b.among) b
    adds_shape (datum.Vector ds) st h =
        let w = even (1 + how_many_data ds) in
        adds_behind w st (adds_each ds (one_object w st) h)

    adds_pairs : (ds : datum.Trees) (st : State) → Among (with_pairs ds st).symbols all → Adds words all (plain_pairs words ds) (unknown_each all ds) st (with_pairs ds st)
    adds_pairs datum.none st h = adds_nothing st h
    adds_pairs (datum.more d ds) st h =
        let one = one_object 2 st in
        let b = adds_pairs ds (with_objects d one) h in
        let a = adds_datum d one b.among in
        adds_behind 2 st (adds_too a b)

    adds_each : (ds : datum.Trees) (st : State) → Among (with_each ds st).symbols all → Adds words all (plain_each words ds) (unknown_each all ds) st (with_each ds st)
    adds_each datum.none st h = adds_nothing st h
    adds_each (datum.more d ds) st h = let b = adds_each ds (with_objects d st) h in adds_too (adds_datum d st b.among) b

  constant_reads : (p : Place) (s : datum.Shape) (st st' : State) → with_constant p s st ≡ Within st' → Among st'.symbols all → Reads words all (plain_in words s) (unknown_in all s) st st'
  unfolding with_constant
  constant_reads p s st st' e h =
      let new = with_objects_of s st in
      let o = within_one (has_room new) new st' (Budget p) e in
      let r = both_true (nat_le new.objects 1000000) (nat_le new.words 4194304) o.0 in
      let few = leb-true new.objects 1000000 r.0 in
      let small = leb-true new.words 4194304 r.1 in
      let k = subst (λ (x : State). Among x.symbols all) (sym o.1) h in
      subst (Reads words all (plain_in words s) (unknown_in all s) st) o.1 (record { adds = adds_shape s st k; room = λ l. enough words new.words new.objects small few })

  reads_too : {n u m v : ℕ} {st mid st' : State} → Reads words all n u st mid → Reads words all m v mid st' → Reads words all (n + m) (u + v) st st'
  reads_too a b = record { adds = adds_too a.adds b.adds; room = λ h. b.room (a.room h) }

  reads_less : {n u k l : ℕ} {st st' : State} → Reads words all n u st st' → k ≤ n → l ≤ u → Reads words all k l st st'
  reads_less a h i =
      let x = a.adds.amounts in
      let y = a.adds.known in
      record { adds = record { amounts = omega arith; known = omega arith; among = a.adds.among }; room = a.room }

  reads_left : (st mid : State) (l : Limited) → Leaves st l → l ≡ Within mid → Among mid.symbols all → Reads words all 0 0 st mid
  reads_left st mid l k e h =
      let same = subst (Leaves st) e k in
      let s = ap (symbols_weigh words) same.0 in
      let o = ap (λ n. cond words st.words n) same.1 in
      let w = ap (λ n. cond words n mid.objects) same.2 in
      record { adds = record { amounts = omega arith; known = refl; among = λ x i. h x (ap (list_any (bytes_eq x)) (sym same.0) ∙ i) }; room = λ r. omega arith }

  reads_entered : {n u : ℕ} {st' : State} (st : State) (s : ℕ) (xs : List Name) → Reads words all n u (enter st s xs) st' → Reads words all n u st st'
  reads_entered st s xs a = record { adds = record { amounts = a.adds.amounts; known = a.adds.known; among = a.adds.among }; room = a.room }

  abbrev ReadsNode : Node → State → State → Type 0
  ReadsNode e st st' = Reads words all (weigh (plain_in words) e) (weigh (unknown_in all) e) st st'

  abbrev ReadsNodes : Nodes → State → State → Type 0
  ReadsNodes es st st' = Reads words all (weigh_all (plain_in words) es) (weigh_all (unknown_in all) es) st st'

  mutual
    means_reads : {st : State} {c : Context} {d : datum.Tree} {e : Node} {st' : State} → Means st c d e st' → Among st'.symbols all → ReadsNode e st st'
    means_reads (a_constant {st = st} {mid = mid} {st' = st'} {c = c} {p = p} {s = s} {t = t} k a b) h =
        let r = constant_reads p t mid st' b h in
        reads_less (reads_too (reads_left st mid (opened p 1 0 st c) (opened_leaves p 1 0 st c) a r.adds.among) r) (omega arith) (omega arith)
    means_reads (a_name {st = st} {st' = st'} {c = c} {p = p} {s = s} {e = e} k a) h =
        let g = subst (IsGood st c) k (good_expression st c (datum.At p s)) in
        let i = name_weighs (plain_in words) st c e g in
        let j = name_weighs (unknown_in all) st c e g in
        reads_less (reads_left st st' (opened p 1 0 st c) (opened_leaves p 1 0 st c) a h) (omega arith) (omega arith)
    means_reads (operands {st = st} {mid = mid} {far = far} {st' = st'} {c = c} {p = p} {k = k} {es = es} {e = e} q a m b l) h =
        let u = reads_left far st' (counted p (follows k) 0 far) (counted_leaves p (follows k) 0 far) l h in
        let r = all_reads m u.adds.among in
        let t = reads_left st mid (opened p 1 0 st c) (opened_leaves p 1 0 st c) a r.adds.among in
        let i = subst (WeighsAs (plain_in words) es) b (built_weighs (plain_in words) p k es) in
        let j = subst (WeighsAs (unknown_in all) es) b (built_weighs (unknown_in all) p k es) in
        reads_less (reads_too t (reads_too r u)) (omega arith) (omega arith)
    means_reads (a_sequence k m) h = sequence_reads m h
    means_reads (a_lambda k m) h = lambda_reads m h
    means_reads (a_let {st = st} {mid = mid} {far = far} {c = c} {p = p} {ps = ps} k a m b) h =
        let u = reads_entered far c.scope (names ps.binders) (body_reads b h) in
        let r = all_reads m u.adds.among in
        let t = reads_left st mid (opened p 1 (length ps.binders) st c) (opened_leaves p 1 (length ps.binders) st c) a r.adds.among in
        reads_less (reads_too t (reads_too r u)) (omega arith) (omega arith)
    means_reads (a_letrec {st = st} {mid = mid} {last = last} {st' = st'} {c = c} {p = p} {ps = ps} {es = es} {e = e} k a m b l) h =
        let xs = variables (fresh mid) (names ps.binders) in
        let w = reads_left last st' (finished p (split xs es (cons e nil)) c last) (finished_leaves p (split xs es (cons e nil)) c last) l h in
        let u = body_reads b w.adds.among in
        let r = reads_entered mid c.scope (names ps.binders) (all_reads m u.adds.among) in
        let t = reads_left st mid (bound_together p (length ps.binders) st c) (bound_leaves p (length ps.binders) st c) a r.adds.among in
        let i = split_weighs (plain_in words) p xs es (cons e nil) in
        let j = split_weighs (unknown_in all) p xs es (cons e nil) in
        reads_less (reads_too t (reads_too r (reads_too u w))) (omega arith) (omega arith)

    all_reads : {st : State} {c : Context} {ds : datum.Trees} {es : Nodes} {st' : State} → MeansAll st c ds es st' → Among st'.symbols all → ReadsNodes es st st'
    all_reads (no_more {st = st}) h = record { adds = adds_nothing st h; room = λ r. r }
    all_reads (one_more m ms) h = let b = all_reads ms h in reads_too (means_reads m b.adds.among) b

    sequence_reads : {st : State} {c : Context} {p : Place} {ds : datum.Trees} {e : Node} {st' : State} → MeansSequence st c p ds e st' → Among st'.symbols all → ReadsNode e st st'
    sequence_reads (alone m) h = means_reads m h
    sequence_reads (several {st = st} {mid = mid} {c = c} {p = p} a m) h =
        let r = all_reads m h in
        reads_less (reads_too (reads_left st mid (opened p 1 0 st c) (opened_leaves p 1 0 st c) a r.adds.among) r) (omega arith) (omega arith)

    lambda_reads : {st : State} {c : Context} {p : Place} {f : Formals} {b : datum.Trees} {e : Node} {st' : State} → MeansLambda st c p f b e st' → Among st'.symbols all → ReadsNode e st st'
    lambda_reads (closure {st = st} {mid = mid} {c = c} {p = p} {f = f} a m) h =
        let r = reads_entered mid c.scope (names (parameters f)) (body_reads m h) in
        let n = length (parameters f) in
        reads_less (reads_too (reads_left st mid (opened p (lambda_nodes c) n st c) (opened_leaves p (lambda_nodes c) n st c) a r.adds.among) r) (omega arith) (omega arith)

    defined_reads : {st : State} {c : Context} {v : Defined} {e : Node} {st' : State} → MeansDefined st c v e st' → Among st'.symbols all → ReadsNode e st st'
    defined_reads (a_value m) h = means_reads m h
    defined_reads (a_procedure n m) h = lambda_reads m h

    each_reads : {st : State} {c : Context} {vs : List Defined} {es : Nodes} {st' : State} → MeansEach st c vs es st' → Among st'.symbols all → ReadsNodes es st st'
    each_reads (none_defined {st = st}) h = record { adds = adds_nothing st h; room = λ r. r }
    each_reads (one_defined m ms) h = let b = each_reads ms h in reads_too (defined_reads m b.adds.among) b

    body_reads : {st : State} {c : Context} {p : Place} {ds : datum.Trees} {e : Node} {st' : State} → MeansBody st c p ds e st' → Among st'.symbols all → ReadsNode e st st'
    body_reads (plain_body {st = st} {mid = mid} s n m) h =
        let r = sequence_reads m h in
        reads_less (reads_too (reads_left st mid (Within mid) (scan_leaves s) refl r.adds.among) r) (omega arith) (omega arith)
    body_reads (defining_body {st = st} {mid = mid} {far = far} {end = end} {st' = st'} {c = c} {p = p} {f = f} {vs = vs} {es = es} s n o b a m ms l) h =
        let w = reads_left end st' (finished p (split f.variables vs es) c end) (finished_leaves p (split f.variables vs es) c end) l h in
        let u = all_reads ms w.adds.among in
        let r = each_reads m u.adds.among in
        let t = reads_left mid far (bound_together p (length f.binders) mid c) (bound_leaves p (length f.binders) mid c) a r.adds.among in
        let g = reads_left st mid (Within mid) (scan_leaves s) refl t.adds.among in
        let i = split_weighs (plain_in words) p f.variables vs es in
        let j = split_weighs (unknown_in all) p f.variables vs es in
        reads_less (reads_too g (reads_too t (reads_too r (reads_too u w)))) (omega arith) (omega arith)

  mutual
    form_reads : {st : State} {c : Context} {d : datum.Tree} {es : Nodes} {st' : State} → MeansForm st c d es st' → Among st'.symbols all → ReadsNodes es st st'
    form_reads (an_expression k m) h = reads_less (means_reads m h) (omega arith) (omega arith)
    form_reads (a_global {st = st} {mid = mid} {c = c} {p = p} k i w a m) h =
        let r = defined_reads m h in
        reads_less (reads_too (reads_left st mid (opened p 1 0 st c) (opened_leaves p 1 0 st c) a r.adds.among) r) (omega arith) (omega arith)
    form_reads (forms_of_begin k m) h = forms_reads m h

    forms_reads : {st : State} {c : Context} {ds : datum.Trees} {es : Nodes} {st' : State} → MeansForms st c ds es st' → Among st'.symbols all → ReadsNodes es st st'
    forms_reads (no_form {st = st}) h = record { adds = adds_nothing st h; room = λ r. r }
    forms_reads (one_form {es = es} {fs = fs} m ms) h =
        let b = forms_reads ms h in
        let a = form_reads m b.adds.among in
        let i = joined_weighs (plain_in words) es fs in
        let j = joined_weighs (unknown_in all) es fs in
        reads_less (reads_too a b) (omega arith) (omega arith)

-- the whole text
nothing_yet : (words : Bool) → amount words no_state ≡ 0
nothing_yet true = refl
nothing_yet false = refl

statics_few : (words library : Bool) (ds : datum.Trees) (es : Nodes) → MeansText library ds es → statics_weigh words (statics_of_all [] es) ≤ most words
statics_few words library ds es (a_text {st = st} m o) =
    let r = forms_reads words st.symbols m (λ s h. h) in
    let a = r.adds.amounts in
    let k = statics_light words st.symbols es r.adds.known in
    let z = nothing_yet words in
    let l = r.room (enough words 0 0 (omega arith) (omega arith)) in
    omega arith

pub few_objects : (library : Bool) (ds : datum.Trees) (es : Nodes) → MeansText library ds es → length (program_of library es).statics ≤ 1000000
unfolding program_of
few_objects library ds es m = let h = statics_few false library ds es m in let n = weigh_ones (statics_of_all [] es) in omega arith

pub few_words : (library : Bool) (ds : datum.Trees) (es : Nodes) → MeansText library ds es → words_of_statics (program_of library es).statics ≤ 4194304
unfolding program_of
few_words library ds es m = let h = statics_few true library ds es m in let n = weigh_words (statics_of_all [] es) in omega arith
