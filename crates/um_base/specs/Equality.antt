-- `==` of names and replies holds of a value and itself alone.
use Rattle.std.specs.Prelude.{◌&&◌, Bool}
use Rattle.std.specs.Cmp.{IsEquivalence, IsPartialEquivalence, decided, partial_equiv_from_equiv}
use Rattle.std.specs.Cmp.Lexicographic.{pointwise, pointwise_decides}
use denote.Enum.Bare.{sameb}
use Rattle.um_base.specs.Exact.{IsExact, ◌&◌, ◌⊕◌, exact-decides, exact-number, exact-end, exact-last, exact-bare, exact-enum, exact-done}
use Rattle.um_base.specs.contracts.attr.AttrPartialEq.TheImpl as attr
use Rattle.um_base.specs.contracts.names.AddrPartialEq.TheImpl as addr
use Rattle.um_base.specs.contracts.names.RangePartialEq.TheImpl as range
use Rattle.um_base.specs.contracts.names.ReplyPartialEq.TheImpl as reply
use Rattle.um_base.specs.contracts.names.RowPartialEq.TheImpl as row
use Rattle.um_base.specs.contracts.names.ThreadIxPartialEq.TheImpl as thread
use Rattle.um_base.specs.contracts.names.Errno as errno_type
use Rattle.um_base.specs.contracts.names.Reply as reply_type
use Rattle.um_base.specs.declared.names.Reply.{Reply}
use Rattle.um_base.specs.declared.names.ThreadIx.{ThreadIx}

pub exact-addr : IsExact addr.ghosts.eq
exact-addr = record { same = λ x y h i. record { 0 = exact-number.same x.0 y.0 h i }; itself = λ x. exact-number.itself x.0 }

pub exact-thread : IsExact thread.ghosts.eq
exact-thread = record { same = λ x y h i. record { 0 = exact-number.same x.0 y.0 h i }; itself = λ x. exact-number.itself x.0 }

pub exact-row : IsExact row.ghosts.eq
exact-row = record { same = λ x y h i. record { 0 = exact-number.same x.0 y.0 h i }; itself = λ x. exact-number.itself x.0 }

pub exact-attr : IsExact attr.ghosts.eq
exact-attr = record { same = λ x y h i. record { 0 = exact-number.same x.0 y.0 h i }; itself = λ x. exact-number.itself x.0 }

pub exact-range : IsExact range.ghosts.eq
exact-range =
    let both = exact-addr & exact-number in
    record {
      same = λ x y h i. let p = both.same (x.start, x.size) (y.start, y.size) h i in record { start = p.0; size = p.1 };
      itself = λ x. both.itself (x.start, x.size);
    }

pub exact-errno : IsExact (sameb errno_type.the_type)
exact-errno = exact-bare errno_type.the_type tt

pub exact-reply : IsExact reply.ghosts.eq
exact-reply = exact-enum reply_type.enum (exact-end ⊕ exact-last exact-number ⊕ exact-last exact-addr ⊕ exact-end ⊕ exact-last exact-errno ⊕ exact-done)

-- what a woken thread is told

abbrev pub same_told : ThreadIx × Reply → ThreadIx × Reply → Bool
same_told x y = thread.ghosts.eq x.0 y.0 && reply.ghosts.eq x.1 y.1

pub exact-told : IsExact same_told
exact-told = exact-thread & exact-reply

pub told_equiv : IsEquivalence (pointwise same_told)
told_equiv = decided (pointwise same_told) (pointwise_decides (exact-decides exact-told))

pub told_per : IsPartialEquivalence (pointwise same_told)
told_per = partial_equiv_from_equiv told_equiv
