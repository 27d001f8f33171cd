use Rattle.std.proofs.Common.{sym, ◌∙◌, arith}
use Rattle.reading.specs.Names.{names_of}
use Rattle.reading.specs.Tokens.{true', false', name'}
use Rattle.grammar.specs.declared.unread.Unread.TheVariants.{Refused}
use Rattle.grammar.specs.Grammar.{atom, r_true, r_false, r_name}
use Rattle.grammar.specs.Ahead.{infix_tok}
use Rattle.grammar.specs.Parts.{rung_of}
use Rattle.grammar.proofs.Reading.{broken, wrong_advance, wrong_right, again, beyond, lift, joined_right, joined_left, same_form, made, begins, one_token, prefix_read, paren_read, wrong_close}
use Rattle.grammar.proofs.parse.Parser.+formulas.Goals as goal

-- ---- operand
pub operand-returns-in_ok-advance-in-True-clause-read : goal.operand-returns-in_ok-advance-in-True-clause-read
operand-returns-in_ok-advance-in-True-clause-read g t c =
    one_token (names_of c.args.self.now.names.now) (g.M.Memory.plenty c.args.self.now.memory.now) true' _ r_true (begins c.args.s.now _ _ c.in-True.is c.in_ok-due.ensures).0 c.in_ok-advance-in-True.ensures.told

pub operand-returns-in_ok-advance-in-False-clause-read : goal.operand-returns-in_ok-advance-in-False-clause-read
operand-returns-in_ok-advance-in-False-clause-read g t c =
    one_token (names_of c.args.self.now.names.now) (g.M.Memory.plenty c.args.self.now.memory.now) false' _ r_false (begins c.args.s.now _ _ c.in-False.is c.in_ok-due.ensures).0 c.in_ok-advance-in-False.ensures.told

pub operand-returns-in_ok-advance-in-Name-clause-read : goal.operand-returns-in_ok-advance-in-Name-clause-read
operand-returns-in_ok-advance-in-Name-clause-read g t c =
    one_token (names_of c.args.self.now.names.now) (g.M.Memory.plenty c.args.self.now.memory.now) (name' c.in-Name.name.now) _ (r_name (sym c.signal_of.ensures.value ∙ c.in_ok-g-in-Name.ensures.ok_part)) (begins c.args.s.now _ _ c.in-Name.is c.in_ok-due.ensures).0 c.in_ok-advance-in-Name.ensures.told

pub operand-returns-in_ok-f-in-Prefix-clause-read : goal.operand-returns-in_ok-f-in-Prefix-clause-read
operand-returns-in_ok-f-in-Prefix-clause-read g t c =
    let inner = c.in_ok-f-in-Prefix.ensures.read in
    made (names_of c.args.self.now.names.now) (g.M.Memory.plenty c.args.self.now.memory.now) atom _ _ _ c.prefixed.result
    (prefix_read (names_of c.args.self.now.names.now) (g.M.Memory.plenty c.args.self.now.memory.now) c.in-Prefix.op _ (begins c.args.s.now _ _ c.in-Prefix.is c.in_ok-due.ensures).0 c.in_ok-advance-in-Prefix.ensures.told inner.0)
    inner.1 c.prefixed.ensures

pub operand-returns-in_ok-close-in-Open-clause-read : goal.operand-returns-in_ok-close-in-Open-clause-read
operand-returns-in_ok-close-in-Open-clause-read g t c =
    let shut = c.in_ok-close-in-Open.ensures.shut (names_of c.args.self.now.names.now) in
    paren_read (names_of c.args.self.now.names.now) (g.M.Memory.plenty c.args.self.now.memory.now) _ shut.0 (begins c.args.s.now _ _ c.in-Open.is c.in_ok-due.ensures).0 c.in_ok-advance-in-Open.ensures.told c.in_ok-f-in-Open.ensures.read.0 shut.1

pub operand-returns-in_err-close-in-Open-clause-read : goal.operand-returns-in_err-close-in-Open-clause-read
operand-returns-in_err-close-in-Open-clause-read g t c =
    let e = c.in_err-close-in-Open.field-0.0 in
    broken (names_of c.args.self.now.names.now) (g.M.Memory.plenty c.args.self.now.memory.now) atom _ _ c.from_residual-in_err-close-in-Open.result (Refused e) c.from_residual-in_err-close-in-Open.ensures.1
    (wrong_close (names_of c.args.self.now.names.now) (g.M.Memory.plenty c.args.self.now.memory.now) _ e (begins c.args.s.now _ _ c.in-Open.is c.in_ok-due.ensures).0 c.in_ok-advance-in-Open.ensures.told c.in_ok-f-in-Open.ensures.read.0 (c.in_err-close-in-Open.ensures.shut (names_of c.args.self.now.names.now)))

-- ---- to_right
pub to_right-returns-else-is_at-clause-read : goal.to_right-returns-else-is_at-clause-read
to_right-returns-else-is_at-clause-read g t c =
    let first = c.in_ok-f.ensures.read in
    (lift (names_of c.args.self.now.names.now) c.args.op first.0, beyond c.args.op _ first.1 (c.is_at.ensures.no c.if-is_at.false))

pub to_right-returns-in_err-advance-clause-read : goal.to_right-returns-in_err-advance-clause-read
to_right-returns-in_err-advance-clause-read g t c =
    let e = c.in_err-advance.field-0.0 in
    broken (names_of c.args.self.now.names.now) (g.M.Memory.plenty c.args.self.now.memory.now) (rung_of c.args.op) _ _ c.from_residual-in_err-advance.result (Refused e) c.from_residual-in_err-advance.ensures.1
    (wrong_advance (names_of c.args.self.now.names.now) (g.M.Memory.plenty c.args.self.now.memory.now) (infix_tok c.args.op) _ e (again c.args.op) c.in_ok-f.ensures.read.0 (c.is_at.ensures.yes c.if-is_at.true).0 c.in_err-advance.ensures.told)

pub to_right-returns-in_err-g-clause-read : goal.to_right-returns-in_err-g-clause-read
to_right-returns-in_err-g-clause-read g t c =
    let e = c.in_err-g.field-0.0 in
    broken (names_of c.args.self.now.names.now) (g.M.Memory.plenty c.args.self.now.memory.now) (rung_of c.args.op) _ _ c.from_residual-in_err-g.result e c.from_residual-in_err-g.ensures.1
    (wrong_right (names_of c.args.self.now.names.now) (g.M.Memory.plenty c.args.self.now.memory.now) (infix_tok c.args.op) _ e (again c.args.op) c.in_ok-f.ensures.read.0 (c.is_at.ensures.yes c.if-is_at.true).0 c.in_ok-advance.ensures.told c.in_err-g.ensures.read)

pub to_right-returns-in_ok-g-clause-read : goal.to_right-returns-in_ok-g-clause-read
to_right-returns-in_ok-g-clause-read g t c =
    let second = c.in_ok-g.ensures.read in
    made (names_of c.args.self.now.names.now) (g.M.Memory.plenty c.args.self.now.memory.now) (rung_of c.args.op) _ _ _ c.joined.result
    (joined_right (names_of c.args.self.now.names.now) c.args.op c.requires _ c.in_ok-f.ensures.read.0 (c.is_at.ensures.yes c.if-is_at.true).0 c.in_ok-advance.ensures.told second.0)
    second.1 c.joined.ensures

-- ---- to_left
pub to_left-loop-op-init : goal.to_left-loop-op-init
to_left-loop-op-init g t c =
    let first = c.in_ok-f.ensures in
    record { shorter = first.falls; reads = lift (names_of c.args.self.now.names.now) c.args.op first.read.0; past = first.read.1 }

pub to_left-loop-op-preserved : goal.to_left-loop-op-preserved
to_left-loop-op-preserved g t c =
    let sofar = c.loop-op.invariant in
    let second = c.in_ok-g.ensures in
    record {
      shorter = omega (arith, sofar.shorter, c.in_ok-advance.ensures.falls, second.falls);
      reads = same_form c.in_ok-f-2.ensures (joined_left (names_of c.args.self.now.names.now) c.args.op c.requires _ sofar.reads (c.is_at.ensures.yes c.loop-op-test.true).0 c.in_ok-advance.ensures.told second.read.0);
      past = second.read.1;
    }

pub to_left-returns-in_err-advance-clause-read : goal.to_left-returns-in_err-advance-clause-read
to_left-returns-in_err-advance-clause-read g t c =
    let e = c.in_err-advance.field-0.0 in
    broken (names_of c.args.self.now.names.now) (g.M.Memory.plenty c.args.self.now.memory.now) (rung_of c.args.op) _ _ c.from_residual-in_err-advance.result (Refused e) c.from_residual-in_err-advance.ensures.1
    (wrong_advance (names_of c.args.self.now.names.now) (g.M.Memory.plenty c.args.self.now.memory.now) (infix_tok c.args.op) _ e (again c.args.op) c.loop-op.invariant.reads (c.is_at.ensures.yes c.loop-op-test.true).0 c.in_err-advance.ensures.told)

pub to_left-returns-in_err-g-clause-read : goal.to_left-returns-in_err-g-clause-read
to_left-returns-in_err-g-clause-read g t c =
    let e = c.in_err-g.field-0.0 in
    broken (names_of c.args.self.now.names.now) (g.M.Memory.plenty c.args.self.now.memory.now) (rung_of c.args.op) _ _ c.from_residual-in_err-g.result e c.from_residual-in_err-g.ensures.1
    (wrong_right (names_of c.args.self.now.names.now) (g.M.Memory.plenty c.args.self.now.memory.now) (infix_tok c.args.op) _ e (again c.args.op) c.loop-op.invariant.reads (c.is_at.ensures.yes c.loop-op-test.true).0 c.in_ok-advance.ensures.told c.in_err-g.ensures.read)
