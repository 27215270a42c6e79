-- What is open while data are read: the data so far, and the lists, vectors and marks that are not finished.
use Rattle.std.specs.Prelude.{List, [], ◌∷◌, ◌++◌, map}
use Rattle.tb_prim.specs.declared.place.Place.{Place}
use Rattle.tb_sexp.specs.declared.token.Mark.{Mark}
use Rattle.tb_sexp.specs.declared.frames.Frame.{Frame as FrameCode}
use Rattle.tb_sexp.specs.declared.frames.Frame.TheVariants as code
use Rattle.tb_sexp.specs.declared.frames.Open.{Open as OpenCode}
use Rattle.tb_sexp.specs.calls.Tails.{view_tail}
use Rattle.tb_sexp.specs.Tree.{Tree}
use Rattle.tb_sexp.specs.ListShapes.{marked}
use Rattle.tb_sexp.specs.View.{view}

-- what is not finished: its place, its elements so far, and the tail of a dotted list that waits for its bracket
pub data Frame : Type 0 where
  InMark : Place → Mark → Frame
  InList : Place → List Tree → Frame
  AfterDot : Place → List Tree → Frame
  AfterTail : Place → List Tree → Tree → Frame
  InVector : Place → List Tree → Frame

-- the whole data so far, and what is not finished, the innermost first
pub record State : Type 0 where
  pub finished : List Tree
  pub frames : List Frame

abbrev pub view_frame : FrameCode → Frame
view_frame (code.Mark p m) = InMark p m
view_frame (code.List p ds) = InList p (map view ds.items)
view_frame (code.AfterDot p ds) = AfterDot p (map view ds.items)
view_frame (code.AfterTail p ds t) = AfterTail p (map view ds.items) (view_tail t)
view_frame (code.Vector p ds) = InVector p (map view ds.items)

abbrev pub view_state : OpenCode → State
view_state s = record { finished = map view s.finished.items; frames = map view_frame s.frames }

-- a finished datum goes where it is waited for
abbrev pub give : List Tree → List Frame → Tree → State
give finished [] d = record { finished = finished ++ d ∷ []; frames = [] }
give finished (InMark p m ∷ fs) d = give finished fs (marked p m d)
give finished (InList p ds ∷ fs) d = record { finished = finished; frames = InList p (ds ++ d ∷ []) ∷ fs }
give finished (AfterDot p ds ∷ fs) d = record { finished = finished; frames = AfterTail p ds d ∷ fs }
give finished (AfterTail p ds t ∷ fs) d = record { finished = finished; frames = AfterTail p ds t ∷ fs }
give finished (InVector p ds ∷ fs) d = record { finished = finished; frames = InVector p (ds ++ d ∷ []) ∷ fs }
