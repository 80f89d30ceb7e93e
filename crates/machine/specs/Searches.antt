-- Request 4 of paper 02: how many versions the DISPATCH that a run stands at looks at.
use Rattle.std.specs.Prelude.{List, ℕ}
use Rattle.program.specs.Program.{Argument, Instr, LIT, MOVE, USE, DUP, VEC, LEN, GET, SET, ARITH, SELECT, CAST, NAMED, STORE, PROM, FORCE, PEEK, POKE, CALL, DISPATCH, SKIP, Program}
use Rattle.machine.specs.Try.{Try, got, stuck, stop, ◌>>=◌, each}
use Rattle.machine.specs.States.{kind_in, value}
use Rattle.machine.specs.Calls.{searched, versions_of}
use Rattle.machine.specs.Steps.{Here, Position, here, position_of, registers_of, instruction, block_end, outside}
use Rattle.machine.specs.declared.Frame.{Frame}
use Rattle.machine.specs.declared.Search.{Search}
use Rattle.machine.specs.declared.State.{State}

-- the kinds of what registers of the frame f hold. Stuck: a register that holds nothing
unfoldable pub kinds_of : Program → State → Frame → List ℕ → Try (List ℕ)
kinds_of P s f rs = do
  vs ← each (value f) rs
  each (kind_in P s) vs

-- a search in a version of this level, by the kinds of its arguments; none where one has no kind
unfoldable pub looked_by : Program → ℕ → ℕ → ℕ → ℕ → List Argument → Try (List ℕ) → Search
looked_by P level f mark ret pairs (got ks) = Search.Looked (searched P level f mark ret pairs ks) (versions_of P f)
looked_by P level f mark ret pairs stuck = Search.Elsewhere
looked_by P level f mark ret pairs (stop e) = Search.Elsewhere

-- DISPATCH alone searches, by the level of the version that it stands in
unfoldable pub search_by : Program → State → Frame → ℕ → Instr → Search
search_by P s f level (LIT d i) = Search.Elsewhere
search_by P s f level (MOVE d a) = Search.Elsewhere
search_by P s f level (USE d a) = Search.Elsewhere
search_by P s f level (DUP d a) = Search.Elsewhere
search_by P s f level (VEC d rs) = Search.Elsewhere
search_by P s f level (LEN d a) = Search.Elsewhere
search_by P s f level (GET d a i) = Search.Elsewhere
search_by P s f level (SET a i e) = Search.Elsewhere
search_by P s f level (ARITH d op a b) = Search.Elsewhere
search_by P s f level (SELECT d c a b) = Search.Elsewhere
search_by P s f level (CAST d a) = Search.Elsewhere
search_by P s f level (NAMED d x) = Search.Elsewhere
search_by P s f level (STORE x a) = Search.Elsewhere
search_by P s f level (PROM d block) = Search.Elsewhere
search_by P s f level (FORCE d a) = Search.Elsewhere
search_by P s f level (PEEK d a x) = Search.Elsewhere
search_by P s f level (POKE a x e) = Search.Elsewhere
search_by P s f level (CALL d g w rs) = Search.Elsewhere
search_by P s f level (DISPATCH d g mark ret pairs) = looked_by P level g mark ret pairs (kinds_of P s f (registers_of pairs))
search_by P s f level (SKIP a n) = Search.Elsewhere

-- by where a run stands in its block
unfoldable pub search_at : Program → State → Frame → ℕ → Position → Search
search_at P s f level (instruction i) = search_by P s f level i
search_at P s f level block_end = Search.Elsewhere
search_at P s f level outside = Search.Elsewhere

-- by where it stands at all
unfoldable pub search_from : Program → State → Try Here → Search
search_from P s (got h) = search_at P s h.frame h.version.level (position_of h)
search_from P s stuck = Search.Elsewhere
search_from P s (stop e) = Search.Elsewhere

-- 02, request 4: what the DISPATCH looks at that the state s stands at, ended or not
unfoldable pub search_of : Program → State → Search
search_of P s = search_from P s (here P s)
