-- Nothing is described, and nothing runs.
use Rattle.std.specs.Prelude.{◌≡◌, true, List, [], None, refl}
use Rattle.um_base.specs.declared.names.Mpu.TheVariants as Mpu
use Rattle.um_base.specs.declared.names.Policy.TheVariants as Policy
use Rattle.um_base.specs.declared.act.Event.{Event}
use Rattle.um_base.specs.declared.image.Image.{Image}
use Rattle.um_base.specs.Lawful.{IsLawful}
use Rattle.um_base.specs.Weight.{weight}
use Rattle.std.proofs.Math.Bridge.{le_by_compare, IsLe}
use Rattle.um_machine.specs.Run.{blank}
use Rattle.um_worked_runs.specs.Evaluate.{Choice}
use Rattle.um_worked_runs.specs.Dump.{Dump}
use Rattle.um_worked_runs.specs.Whole.{whole_run}

abbrev pub image : Image
image =
    record {
      mpu = Mpu.V7;
      regions = 8;
      policy = Policy.Abort;
      rodata = None;
      rodata_bytes = [];
      pools = [];
      partitions = [];
      domains = [];
      objects = [];
      boots = [];
      scripts = [];
      futexes = [];
    }

-- which thread makes each step, and which one
abbrev pub choices : List Choice
choices =
    []

-- what the trace shows
abbrev pub events : List Event
events =
    []

abbrev pub dump : Dump
dump =
    record {
      threads = [];
      objects = [];
      domains = [];
      pools = [];
      memory = [];
    }

pub is_lawful : IsLawful image
unfolding IsLe
is_lawful = record {
  regions = refl;
  names = refl;
  distinct = refl;
  rodata = refl;
  pools = refl;
  partitions = refl;
  partitions_placed = record { starts_are = refl; fit = le_by_compare 0 524288 tt };
  domains = refl;
  objects = refl;
  indices = refl;
  rows = refl;
  stacks_placed = record { starts_are = refl; fit = le_by_compare 0 524288 tt };
  boots = refl;
  boot_threads = refl;
  boot_stacks = refl;
  scripts = refl;
  futexes = refl;
  futexes_apart = refl;
  light = le_by_compare (weight image) 400000 tt;
}

pub runs : whole_run image choices ≡ record { events = events; is_lawful = true; is_complete = true; dump = dump }
unfolding blank
runs = refl
