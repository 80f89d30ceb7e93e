-- Steps: how activations of calls and forces open and end.
use Rattle.std.specs.Prelude.{List, [], ◌∷◌, map, Bool, true, false, not, ℕ, zero, suc, ◌+◌, ◌-◌, length, set, eqb, leb, ltb}
use Rattle.std.proofs.Math.Option.{Option, none, some}
use Rattle.layout.specs.Bounds.{VERSIONS, INSTRUCTIONS}
use Rattle.layout.specs.Tests.{◌and◌, found}
use Rattle.program.specs.Program.{Argument, Version, Program, find_version, mark_of, parameter_types}
use Rattle.rules.specs.Types.{kind_of, ownership_of, is_owned, within}
use Rattle.machine.specs.Try.{Try, got, stuck, stop, ◌>>=◌, ◌>>◌, stuck_unless, end_unless, or_stuck, at, put}
use Rattle.machine.specs.States.{ACTIVATIONS, place, over, new_frame, items_of, an_integer, kind_in, live_activations, pending, with_stack, with_promise, with_end, assign}
use Rattle.machine.specs.declared.Activation.{Activation}
use Rattle.machine.specs.declared.Cache.{Cache}
use Rattle.machine.specs.declared.End.{End}
use Rattle.machine.specs.declared.Frame.{Frame}
use Rattle.machine.specs.declared.Opener.{Opener}
use Rattle.machine.specs.declared.Promise.{Promise}
use Rattle.machine.specs.declared.State.{State}
use Rattle.machine.specs.declared.Value.{Value}

-- ---- activations

-- one more activation, on top. DEEP: 33rd activation
unfoldable pub opened : State → Activation → Try State
opened s a = do
  end_unless End.Deep (ltb s.depth ACTIVATIONS)
  got (with_stack s s.frames s.calls (set s.activations s.depth a) (s.depth + 1))

-- the activation on top, a, stands at its next instruction
unfoldable pub passed : State → Activation → State
passed s a = with_stack s s.frames s.calls (set s.activations (s.depth - 1) (record { opener = a.opener; d = a.d; frame = a.frame; block = a.block; next = a.next + 1 })) s.depth

-- the activation on top stands n instructions further on. Stuck: further on than any block goes
unfoldable pub skipped : State → ℕ → Try State
skipped s n = do
  a ← at (live_activations s) (s.depth - 1)
  stuck_unless (leb (a.next + n) INSTRUCTIONS)
  got (with_stack s s.frames s.calls (set s.activations (s.depth - 1) (record { opener = a.opener; d = a.d; frame = a.frame; block = a.block; next = a.next + n })) s.depth)

-- ---- calls

-- as many arguments as parameters, and each kind within that of its parameter
unfoldable pub matching : List ℕ → List ℕ → Bool
matching [] [] = true
matching [] (t ∷ ts) = false
matching (k ∷ ks) [] = false
matching (k ∷ ks) (t ∷ ts) = within k (kind_of t) and matching ks ts

-- an owned parameter empties the register that it takes
unfoldable pub empty_if : Bool → State → ℕ → ℕ → Try State
empty_if true s k r = assign s k r Value.Empty
empty_if false s k r = got s

-- the registers rs of the frame k go to parameters of types ts
unfoldable pub emptied : State → ℕ → List ℕ → List ℕ → Try State
emptied s k [] rs = got s
emptied s k (t ∷ ts) [] = got s
emptied s k (t ∷ ts) (r ∷ rs) = do
  u ← empty_if (is_owned t) s k r
  emptied u k ts rs

-- a new frame of the version W, its parameters filled
unfoldable pub frame_for : Version → List Value → Frame
frame_for W vs =
    let f = new_frame W.function W.version in
    record { function = f.function; version = f.version; registers = over (map place vs) f.registers; names = f.names }

-- the frame k calls W with the values vs of its registers rs, for its register d
unfoldable pub enter : State → ℕ → ℕ → Version → List ℕ → List Value → Try State
enter s k d W rs vs = do
  t ← opened s (record { opener = Opener.Call; d = d; frame = s.calls; block = 0; next = 0 })
  u ← emptied t k (parameter_types W) rs
  fs ← put u.frames u.calls (frame_for W vs)
  got (with_stack u fs (u.calls + 1) u.activations u.depth)

-- equal parameter count and ownerships
unfoldable pub same_ownerships : List Argument → List ℕ → Bool
same_ownerships [] [] = true
same_ownerships [] (t ∷ ts) = false
same_ownerships (a ∷ l) [] = false
same_ownerships (a ∷ l) (t ∷ ts) = eqb (ownership_of a.type) (ownership_of t) and same_ownerships l ts

-- DISPATCH in a version of this level, which by 02, 7 passes over versions above it: equal parameter count and ownerships, equal return ownership, return within, mark no greater, arguments matching
unfoldable pub dispatches : ℕ → ℕ → ℕ → List Argument → List ℕ → Version → Bool
dispatches level mark ret pairs ks W =
    leb W.level level
    and same_ownerships pairs (parameter_types W)
    and eqb (ownership_of W.return) (ownership_of ret)
    and within (kind_of W.return) (kind_of ret)
    and leb (mark_of W) mark
    and matching ks (parameter_types W)

-- the lowest of n versions of the function f, from w on, that passes. UNDEF: DISPATCH with no fit
unfoldable pub lowest : Program → ℕ → (Version → Bool) → ℕ → ℕ → Try Version
lowest P f passes zero w = stop End.Undef
lowest P f passes (suc n) w = elim (found (find_version P f w) passes) [ true ↦ or_stuck (find_version P f w) | false ↦ lowest P f passes n (suc w) ]

-- the version that a DISPATCH in a version of this level picks, by the kinds of its arguments
unfoldable pub picked : Program → ℕ → ℕ → ℕ → ℕ → List Argument → List ℕ → Try Version
picked P level f mark ret pairs ks = lowest P f (dispatches level mark ret pairs ks) VERSIONS 0

-- 1 where the version is there, else 0
unfoldable pub present : Option Version → ℕ
present none = 0
present (some W) = 1

-- how many of n versions of the function f, from w on, the search looks at: up to the first that passes, else all that there are
unfoldable pub looked : Program → ℕ → (Version → Bool) → ℕ → ℕ → ℕ
looked P f passes zero w = 0
looked P f passes (suc n) w = elim (found (find_version P f w) passes) [ true ↦ 1 | false ↦ present (find_version P f w) + looked P f passes n (suc w) ]

-- 02, request 4: how many versions a DISPATCH in a version of this level looks at, by the kinds of its arguments; those that it passes over for their level count
unfoldable pub searched : Program → ℕ → ℕ → ℕ → ℕ → List Argument → List ℕ → ℕ
searched P level f mark ret pairs ks = looked P f (dispatches level mark ret pairs ks) VERSIONS 0

-- how many versions the function f has: so many are looked at where none passes
unfoldable pub versions_of : Program → ℕ → ℕ
versions_of P f = looked P f (λ W. false) VERSIONS 0

-- ---- forces

-- a cached integer at once. UNDEF: force of a promise being forced
unfoldable pub force : State → ℕ → ℕ → ℕ → Promise → Cache → Try State
force s k d p q (Cache.Forced z) = assign s k d (Value.Integer z)
force s k d p q Cache.Unforced = do
  end_unless End.Undef (not (pending s p))
  opened s (record { opener = Opener.Force p; d = d; frame = q.frame; block = q.block; next = 0 })

-- ---- block ends

-- no call and no activation is left
unfoldable pub closed : State → State
closed s = with_stack s s.frames 0 s.activations 0

-- DONE gives the integer, or says vector with its length and keeps the items
unfoldable pub done : State → Value → Try State
done s Value.Empty = stuck
done s (Value.Integer z) = got (with_end (closed s) s.result (End.Integer z))
done s (Value.Vector v) = do
  w ← at s.vectors v
  got (with_end (closed s) w.items (End.Vector (length (items_of w))))
done s (Value.Promise p) = stuck

-- v goes to the register d in the frame of the activation below; n calls are left
unfoldable pub back : State → ℕ → ℕ → Value → Try State
back s n d v = do
  stuck_unless (ltb 1 s.depth)
  b ← at s.activations (s.depth - 2)
  assign (with_stack s s.frames n s.activations (s.depth - 1)) b.frame d v

-- the activation a ends with the result v: a call, which works in the newest frame and ends with its block 0, goes back to its caller, the lowest activation is DONE, a force caches its integer
unfoldable pub finish : Program → State → Activation → Version → Value → Opener → Try State
finish P s a W v Opener.Call = do
  k ← kind_in P s v
  stuck_unless (within k (kind_of W.return))
  stuck_unless (eqb a.block 0 and eqb (a.frame + 1) s.calls)
  elim (eqb s.depth 1) [ true ↦ done s v | false ↦ back s a.frame a.d v ]
finish P s a W v (Opener.Force p) = do
  z ← an_integer v
  q ← at s.promises p
  back (with_promise s p (record { frame = q.frame; block = q.block; cache = Cache.Forced z })) s.calls a.d v
