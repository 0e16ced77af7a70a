-- What kinds of records mean, whose numbers keep their rules.
use Rattle.std.specs.Prelude.{cond, ℤ}
use Rattle.image.specs.declared.kinds.LexerAction.{LexerAction}
use Rattle.image.specs.declared.kinds.LexerAction.TheVariants.{Channel, Mode, More, PopMode, PushMode, Skip, «Type» as TokenType}
use Rattle.image.specs.declared.kinds.StateKind.{StateKind}
use Rattle.image.specs.declared.kinds.StateKind.TheVariants.{Basic, RuleStart, TokensStart, RuleStop}
use Rattle.image.specs.declared.kinds.TransitionKind.{TransitionKind}
use Rattle.image.specs.declared.kinds.TransitionKind.TheVariants.{Epsilon, Range, Rule as Call, Predicate, Atom, Action, Set, NotSet, Wildcard}
use Rattle.image.specs.Numbers.{natural, is}

abbrev pub state_kind_of : ℤ → StateKind
state_kind_of kind = cond (is kind 1) Basic (cond (is kind 2) RuleStart (cond (is kind 6) TokensStart RuleStop))

abbrev pub transition_kind_of : ℤ → ℤ → ℤ → TransitionKind
transition_kind_of kind p q =
    cond (is kind 1) Epsilon
    (cond (is kind 2) (Range p q)
    (cond (is kind 3) (Call (natural q) (natural p))
    (cond (is kind 4) (Predicate (natural p) (natural q))
    (cond (is kind 5) (Atom p)
    (cond (is kind 6) (Action (natural p))
    (cond (is kind 7) (Set (natural p) (natural q))
    (cond (is kind 8) (NotSet (natural p) (natural q))
    Wildcard)))))))

abbrev pub action_of : ℤ → ℤ → LexerAction
action_of kind argument =
    cond (is kind 0) (Channel (natural argument))
    (cond (is kind 2) (Mode (natural argument))
    (cond (is kind 3) More
    (cond (is kind 4) PopMode
    (cond (is kind 5) (PushMode (natural argument))
    (cond (is kind 6) Skip
    (TokenType (natural argument)))))))
