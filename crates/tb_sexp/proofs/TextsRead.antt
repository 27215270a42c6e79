-- What a call that read a whole text answered is what the grammar says of the text.
use Rattle.std.proofs.Common.{ℕ, suc, ◌<◌, Bool, List, [], ◌∷◌, IfOk, IfErr}
use Rattle.std.specs.Prelude.{Result, Ok, Err, get_or}
use Rattle.std.specs.List.{All}
use Rattle.tb_sexp.specs.declared.refusal.ReadRefusal.{ReadRefusal}
use Rattle.tb_sexp.specs.declared.refusal.ReadRefusal.TheVariants.{Syntax, Unclosed, TooDeep, TooLong, TooBig, NoMemory}
use Rattle.tb_sexp.specs.ReadData.{AreBytes, IsRead}
use Rattle.tb_sexp.specs.calls.Runs.{Reads, shown}
use Rattle.tb_sexp.specs.Texts.{IsText, RefusedAs}
use Rattle.tb_sexp.specs.Tree.{Tree}
use Rattle.tb_sexp.proofs.RoundTripRead.{read_data}
use Rattle.tb_sexp.proofs.TextsFound.{outcome}

pub text_found : {X : Type 0} (f : X → List Tree) (library : Bool) (text : List ℕ) (r : Result X ReadRefusal) → Reads library text (shown f r) → IfOk r (λ x. IsText library text (f x))
text_found f library text (Ok x) h = outcome library text (Ok (f x)) h
text_found f library text (Err e) h = tt

pub text_refused : {X : Type 0} (f : X → List Tree) (library : Bool) (text : List ℕ) (r : Result X ReadRefusal) → Reads library text (shown f r) → IfErr r (λ e. RefusedAs library text e)
text_refused f library text (Ok x) h = tt
text_refused f library text (Err (Syntax p)) h = outcome library text (Err (Syntax p)) h
text_refused f library text (Err (Unclosed p)) h = outcome library text (Err (Unclosed p)) h
text_refused f library text (Err (TooDeep p)) h = outcome library text (Err (TooDeep p)) h
text_refused f library text (Err (TooLong p)) h = outcome library text (Err (TooLong p)) h
text_refused f library text (Err (TooBig p)) h = outcome library text (Err (TooBig p)) h
text_refused f library text (Err NoMemory) h = tt

pub are_bytes : (bs : List ℕ) → ((i : ℕ) → get_or bs i 0 < 256) → AreBytes bs
are_bytes [] h = tt
are_bytes (b ∷ bs) h = (h 0, are_bytes bs (λ i. h (suc i)))

pub text_kept : {X : Type 0} (f : X → List Tree) (library : Bool) (text : List ℕ) (r : Result X ReadRefusal) → AreBytes text → Reads library text (shown f r) → IfOk r (λ x. All (λ d. IsRead 256 d) (f x))
text_kept f library text (Ok x) bytes h = read_data library text (f x) bytes (outcome library text (Ok (f x)) h)
text_kept f library text (Err e) bytes h = tt
