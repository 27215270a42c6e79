-- The rows of blocks by those of their parts.
use Rattle.std.proofs.Common.{◌≡◌, sym, ap, ◌∙◌, ℕ, List, [], ◌∷◌, ◌++◌, map, length, get_or, ◌<◌, append_assoc, Result, Ok, Err, OnOk}
use Rattle.std.specs.Prelude.{reverse, slice_get, option_map, Some}
use Rattle.std.proofs.Math.Path.{fun_ext}
use Rattle.std.proofs.lemmas.List.{reverse-append, reverse-reverse, map-append}
use Rattle.std.proofs.lemmas.Option.{slice_get-map, slice_get-get_or}
use Rattle.tb_core.specs.FreeVariables.{without, of_lambdas}
use Rattle.tb_ir.specs.AnfTree.{Operand, Block, Bind, CloseAll, Op, Branch}
use Rattle.tb_ir.specs.AnfMachine.{free_of_atom, free_block, free_op}
use Rattle.tb_ir.specs.AnfRules.{blocks}
use Rattle.tb_ir.specs.declared.anf.AnfProc.{AnfProc}
use Rattle.tb_ir.specs.AnfPlain.{view_block, view_proc}
use Rattle.tb_live.specs.Live.{live_row, live_rows, rows_of}
use Rattle.tb_live.specs.calls.Rows.{back_rows}
use Rattle.tb_live.specs.calls.Sets.{joined}
use Rattle.tb_live.proofs.Joined.{joined-joined, joined-first, joined-without}

pub bind-row : (captured : ℕ → List ℕ) (x : ℕ) (op : Op) (b : Block) (ks : List ℕ) (later new : List ℕ) → later ≡ live_row captured b →
    ks ≡ joined [] (free_op captured op) → new ≡ joined ks (without (x ∷ []) later) → new ≡ live_row captured (Bind x op b)
bind-row captured x op b ks later new e f g =
    g ∙ ap (λ zs. joined ks (without (x ∷ []) zs)) e ∙ joined-without ks (x ∷ []) (free_block captured b)
    ∙ ap (λ zs. joined zs (without (x ∷ []) (free_block captured b))) f
    ∙ joined-joined [] (free_op captured op) (without (x ∷ []) (free_block captured b))

pub group-row : (captured : ℕ → List ℕ) (xs ls : List ℕ) (b : Block) (ks later inside new : List ℕ) → later ≡ live_row captured b →
    ks ≡ joined [] (of_lambdas captured ls) → inside ≡ joined ks later → new ≡ joined [] (without xs inside) → new ≡ live_row captured (CloseAll xs ls b)
group-row captured xs ls b ks later inside new e f g h =
    let all : inside ≡ joined [] (of_lambdas captured ls ++ free_block captured b) =
    g ∙ ap (joined ks) e ∙ joined-first ks (free_block captured b) ∙ ap (λ zs. joined zs (free_block captured b)) f
    ∙ joined-joined [] (of_lambdas captured ls) (free_block captured b) in
    h ∙ ap (λ zs. joined [] (without xs zs)) all ∙ joined-without [] xs (of_lambdas captured ls ++ free_block captured b)

pub branch-row : (captured : ℕ → List ℕ) (a : Operand) (b d : Block) (ks one two new bs ds : List ℕ) → one ≡ joined ks (free_of_atom a) →
    two ≡ joined one bs → new ≡ joined two ds → bs ≡ live_row captured b → ds ≡ live_row captured d → new ≡ joined ks (free_op captured (Branch a b d))
branch-row captured a b d ks one two new bs ds e f g p q =
    g ∙ ap (joined two) q ∙ joined-first two (free_block captured d)
    ∙ ap (λ zs. joined zs (free_block captured d)) (f ∙ ap (joined one) p ∙ joined-first one (free_block captured b))
    ∙ joined-joined one (free_block captured b) (free_block captured d)
    ∙ ap (λ zs. joined zs (free_block captured b ++ free_block captured d)) e
    ∙ joined-joined ks (free_of_atom a) (free_block captured b ++ free_block captured d)

-- the rows of two lists of blocks, the last first
pub back-append : (captured : ℕ → List ℕ) (bs ds : List Block) → back_rows captured (bs ++ ds) ≡ back_rows captured ds ++ back_rows captured bs
back-append captured bs ds = ap reverse (map-append (live_row captured) bs ds) ∙ reverse-append (map (live_row captured) bs) (map (live_row captured) ds)

pub two-rows : (captured : ℕ → List ℕ) (bs ds : List Block) (old mid new : List (List ℕ)) → mid ≡ old ++ back_rows captured ds →
    new ≡ mid ++ back_rows captured bs → new ≡ old ++ back_rows captured (bs ++ ds)
two-rows captured bs ds old mid new e f =
    f ∙ ap (λ rs. rs ++ back_rows captured bs) e ∙ append_assoc old (back_rows captured ds) (back_rows captured bs)
    ∙ ap (λ rs. old ++ rs) (sym (back-append captured bs ds))

-- what holds where a call succeeds gives what holds otherwise
pub on-ok : {X E : Type 0} (P Q : Type 0) (r : Result X E) → (P → Q) → OnOk r P → OnOk r Q
on-ok P Q (Ok x) h k = h k
on-ok P Q (Err e) h k = tt

-- the rows of the body of a proc, turned round
pub proc-rows : (procs : List AnfProc) (i : ℕ) (d : AnfProc) (captured named : ℕ → List ℕ) (back rows : List (List ℕ)) → i < length procs →
    ((m : ℕ) → captured m ≡ named m) → back ≡ back_rows captured (blocks (view_block (get_or procs i d).body)) → rows ≡ reverse back →
    rows ≡ rows_of named (slice_get (map view_proc procs) i)
proc-rows procs i d captured named back rows lt e f g =
    let body = view_block (get_or procs i d).body in
    let found : slice_get (map view_proc procs) i ≡ Some (view_proc (get_or procs i d)) =
    slice_get-map view_proc procs i ∙ ap (option_map view_proc) (slice_get-get_or procs i d lt) in
    g ∙ ap reverse f ∙ reverse-reverse (map (live_row captured) (blocks body))
    ∙ ap (λ (h : ℕ → List ℕ). live_rows h body) (fun_ext e)
    ∙ ap (rows_of named) (sym found)
