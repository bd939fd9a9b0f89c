-- `==` of acts holds of an act and itself alone.
use Rattle.std.specs.Cmp.Lexicographic.{pointwise_decides}
use denote.Enum.Bare.{sameb}
use Rattle.um_base.specs.Exact.{IsExact, ◌&◌, ◌⊕◌, exact, exact-decides, exact-number as number, exact-flag as flag, exact-end as none, exact-last as last, exact-bare, exact-enum, exact-done as done, exact-option as option}
use Rattle.um_base.specs.Equality.{exact-addr as addr, exact-thread as thread, exact-row as row, exact-attr as attr, exact-range as range, exact-errno as errno, exact-reply as reply, exact-told}
use Rattle.um_base.specs.contracts.act.Act as act_type
use Rattle.um_base.specs.contracts.act.Answer as answer_type
use Rattle.um_base.specs.contracts.act.Cause as cause_type
use Rattle.um_base.specs.contracts.act.Found as found_type
use Rattle.um_base.specs.contracts.act.Given as given_type
use Rattle.um_base.specs.contracts.act.Leftover as leftover_type
use Rattle.um_base.specs.contracts.act.SetSaid as set_type
use Rattle.um_base.specs.contracts.names.Access as access_type
use Rattle.um_base.specs.contracts.names.Kind as kind_type
use Rattle.um_base.specs.contracts.names.Want as want_type
use Rattle.um_base.specs.contracts.act.ActPartialEq.TheImpl as act_equality
use Rattle.um_base.specs.contracts.act.AnswerPartialEq.TheImpl as answer_equality
use Rattle.um_base.specs.contracts.act.CausePartialEq.TheImpl as cause_equality
use Rattle.um_base.specs.contracts.act.FoundPartialEq.TheImpl as found_equality
use Rattle.um_base.specs.contracts.act.SetSaidPartialEq.TheImpl as set_equality
use Rattle.um_base.specs.contracts.lists.RepliesPartialEq.TheImpl as replies_equality

access : IsExact (sameb access_type.the_type)
access = exact-bare access_type.the_type tt

given : IsExact (sameb given_type.the_type)
given = exact-bare given_type.the_type tt

kind : IsExact (sameb kind_type.the_type)
kind = exact-bare kind_type.the_type tt

left : IsExact (sameb leftover_type.the_type)
left = exact-bare leftover_type.the_type tt

want : IsExact (sameb want_type.the_type)
want = exact-bare want_type.the_type tt

answer : IsExact answer_equality.ghosts.eq
answer = exact-enum answer_type.enum (last reply ⊕ none ⊕ done)

cause : IsExact cause_equality.ghosts.eq
cause = exact-enum cause_type.enum (last errno ⊕ none ⊕ none ⊕ none ⊕ none ⊕ none ⊕ none ⊕ none ⊕ none ⊕ none ⊕ done)

found : IsExact found_equality.ghosts.eq
found = exact-enum found_type.enum (last number ⊕ none ⊕ none ⊕ done)

set : IsExact set_equality.ghosts.eq
set = exact-enum set_type.enum (none ⊕ none ⊕ last errno ⊕ done)

woken : IsExact replies_equality.ghosts.eq
woken = exact (pointwise_decides (exact-decides exact-told))

-- the variants of `Act` in the order in which they are declared
pub acts : IsExact act_equality.ghosts.eq
acts =
    exact-enum act_type.enum (
    number & last number ⊕ addr & option kind & want & last (option errno) ⊕ addr & number & last number ⊕ addr & number & last number
    ⊕ last addr ⊕ access & addr & last number ⊕ addr & number & last flag ⊕ addr & number & last flag ⊕ addr & number & last flag
    ⊕ addr & last found ⊕ last row ⊕ addr & answer & last woken ⊕ none ⊕ last reply ⊕ thread & addr & last given ⊕ thread & last given
    ⊕ thread & last addr ⊕ thread & addr & last left ⊕ addr & last given ⊕ addr & last set ⊕ last addr ⊕ last thread
    ⊕ kind & last (option addr) ⊕ last addr ⊕ number & last flag ⊕ last number ⊕ last addr ⊕ number & last reply
    ⊕ number & range & attr & last reply ⊕ number & range & attr & last reply ⊕ number & thread & last reply ⊕ last thread ⊕ none
    ⊕ number & last cause ⊕ last thread ⊕ none ⊕ last number ⊕ last number ⊕ last thread ⊕ addr & last woken ⊕ thread & last flag
    ⊕ thread & last flag ⊕ thread & last flag ⊕ last thread ⊕ none ⊕ thread & last answer ⊕ thread & last woken
    ⊕ addr & number & last answer ⊕ addr & answer & last woken ⊕ done)
