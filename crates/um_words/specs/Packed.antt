-- What the bits of each word are, counted from the lowest.
use Rattle.std.specs.Prelude.{ℕ, ◌+◌, ◌*◌, ◌<◌, ◌/◌, ◌%◌, Bool, ◌==◌, if◌then◌else◌, ◌&&◌, ◌||◌, nat_lt, not, Option, Some, None, IfSome}
use Rattle.um_base.specs.declared.names.Mode.{Mode}
use Rattle.um_machine.specs.declared.thread.Life.{Life}
use Rattle.um_machine.specs.State.{is_user}
use Rattle.um_words.specs.declared.row_word.RowWord.{RowWord}
use Rattle.um_words.specs.declared.row_word.Stage.{Stage}
use Rattle.um_words.specs.declared.thread_word.ThreadWord.{ThreadWord}
use Rattle.um_words.specs.declared.dom_word.DomWord.{DomWord}
use Rattle.um_words.specs.declared.cell_word.CellWord.{CellWord}
use Rattle.um_words.specs.Bits.{bit, bits_of, number_of}

-- A row: 0 to 31 permissions by thread index, 32 initialised, 33 public, 34 dynamic, 35 and 36 the stage, 37 to 43 claims, 44 to 63 the step number.

abbrev pub stage_code : Stage → ℕ
stage_code Stage.Free = 0
stage_code Stage.Live = 1
stage_code Stage.Dying = 2
stage_code Stage.Cleaning = 3

abbrev pub stage_of : ℕ → Stage
stage_of n = if n == 0 then Stage.Free else if n == 1 then Stage.Live else if n == 2 then Stage.Dying else Stage.Cleaning

abbrev pub packed_row : RowWord → ℕ
packed_row r =
    number_of r.permissions + 4294967296 * bit r.init + 8589934592 * bit r.public + 17179869184 * bit r.dynamic
    + 34359738368 * stage_code r.stage + 137438953472 * r.claims + 17592186044416 * r.number

abbrev pub row_of : ℕ → RowWord
row_of w =
    record {
      permissions = bits_of 32 (w % 4294967296);
      init = w / 4294967296 % 2 == 1;
      public = w / 8589934592 % 2 == 1;
      dynamic = w / 17179869184 % 2 == 1;
      stage = stage_of (w / 34359738368 % 4);
      claims = w / 137438953472 % 128;
      number = w / 17592186044416;
    }

pub record FitsRow (r : RowWord) : Type 0 where
  pub claims : r.claims < 128
  pub number : r.number < 1048576

-- A thread: 0 and 1 its life, 2 doomed, 3 held, 4 supervisor, 5 to 7 its domain, 8 aborted, 9 suspended, 10 whether a site is noted, 11 to 26 that site,
-- 36 to 63 the step number. All others are zero.

abbrev pub life_code : Life → ℕ
life_code Life.Unborn = 0
life_code Life.Living = 1
life_code Life.Ended = 2

abbrev pub life_of : ℕ → Life
life_of n = if n == 0 then Life.Unborn else if n == 1 then Life.Living else Life.Ended

abbrev pub mode_of : Bool → Mode
mode_of supervisor = if supervisor then Mode.Supervisor else Mode.User

abbrev pub note_code : Option ℕ → ℕ
note_code None = 0
note_code (Some site) = 1 + 2 * site

abbrev pub note_of : ℕ → Option ℕ
note_of n = if n % 2 == 1 then Some (n / 2) else None

abbrev pub packed_thread : ThreadWord → ℕ
packed_thread t =
    life_code t.life + 4 * bit t.doomed + 8 * bit t.held + 16 * bit (not (is_user t.mode)) + 32 * t.domain
    + 256 * bit t.aborted + 512 * bit t.suspended + 1024 * note_code t.note + 68719476736 * t.number

abbrev pub thread_in : ℕ → ThreadWord
thread_in w =
    record {
      life = life_of (w % 4);
      doomed = w / 4 % 2 == 1;
      held = w / 8 % 2 == 1;
      mode = mode_of (w / 16 % 2 == 1);
      domain = w / 32 % 8;
      aborted = w / 256 % 2 == 1;
      suspended = w / 512 % 2 == 1;
      note = note_of (w / 1024 % 131072);
      number = w / 68719476736;
    }

-- no site without the bit that one is noted
abbrev pub is_note : ℕ → Bool
is_note n = (n % 2 == 1) || (n == 0)

abbrev pub is_thread : ℕ → Bool
is_thread w = nat_lt (w % 4) 3 && (w / 134217728 % 512 == 0) && is_note (w / 1024 % 131072)

abbrev pub thread_of : ℕ → Option ThreadWord
thread_of w = if is_thread w then Some (thread_in w) else None

pub record FitsThread (t : ThreadWord) : Type 0 where
  pub domain : t.domain < 8
  pub note : IfSome t.note (λ site. site < 65536)
  pub number : t.number < 268435456

-- A domain: 0 initialised, 1 a writer, 2 to 8 the readers, 9 to 28 the version, 36 to 63 the step number. All others are zero.

abbrev pub packed_domain : DomWord → ℕ
packed_domain d = bit d.init + 2 * bit d.writer + 4 * d.readers + 512 * d.version + 68719476736 * d.number

abbrev pub domain_in : ℕ → DomWord
domain_in w =
    record {
      init = w % 2 == 1;
      writer = w / 2 % 2 == 1;
      readers = w / 4 % 128;
      version = w / 512 % 1048576;
      number = w / 68719476736;
    }

abbrev pub is_domain : ℕ → Bool
is_domain w = w / 536870912 % 128 == 0

abbrev pub domain_of : ℕ → Option DomWord
domain_of w = if is_domain w then Some (domain_in w) else None

pub record FitsDomain (d : DomWord) : Type 0 where
  pub readers : d.readers < 128
  pub version : d.version < 1048576
  pub number : d.number < 268435456

-- A cell: 0 the turn, 1 to 8 ready threads, 9 to 16 running ones, 17 to 35 marks that are owed, 36 to 63 the step number.

abbrev pub packed_cell : CellWord → ℕ
packed_cell c = bit c.turn + 2 * c.ready + 512 * c.running + 131072 * c.owed + 68719476736 * c.number

abbrev pub cell_of : ℕ → CellWord
cell_of w =
    record {
      turn = w % 2 == 1;
      ready = w / 2 % 256;
      running = w / 512 % 256;
      owed = w / 131072 % 524288;
      number = w / 68719476736;
    }

pub record FitsCell (c : CellWord) : Type 0 where
  pub owed : c.owed < 524288
  pub number : c.number < 268435456
