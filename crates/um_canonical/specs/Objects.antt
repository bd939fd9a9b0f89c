-- What is printed for objects.
use Rattle.std.specs.Prelude.{ℕ, ℤ, List, [], ◌∷◌, ◌++◌, Bool, true, if◌then◌else◌, Some, None}
use Rattle.um_base.specs.declared.names.Kind.{Kind}
use Rattle.um_document.specs.declared.description.Details.{Details}
use Rattle.um_document.specs.declared.description.ObjectEntry.{ObjectEntry}
use Rattle.um_document.specs.declared.shape.Key.{Key}
use Rattle.um_document.specs.Shape.{word}
use Rattle.um_vocabulary.specs.Words.{kind_word}
use Rattle.um_canonical.specs.Printed.{Atom, Printed, Pairs}

abbrev pub number_pair : Key → ℤ → List ℕ × Printed
number_pair k z = (word k, Printed.one (Atom.number z))

abbrev pub text_pair : Key → List ℕ → List ℕ × Printed
text_pair k s = (word k, Printed.one (Atom.text s))

-- where it holds
abbrev pub truth_pairs : Key → Bool → Pairs
truth_pairs k b = if b then (word k, Printed.one (Atom.truth true)) ∷ [] else []

abbrev pub details_pairs : Details → Pairs
details_pairs Details.Thread = []
details_pairs (Details.ThreadStack size) = number_pair Key.Size size ∷ []
details_pairs (Details.Sem None) = []
details_pairs (Details.Sem (Some n)) = number_pair Key.Count n.count ∷ number_pair Key.Limit n.limit ∷ []
details_pairs (Details.Mutex init) = truth_pairs Key.Init init
details_pairs (Details.Msgq None) = []
details_pairs (Details.Msgq (Some n)) = number_pair Key.MsgSize n.msg_size ∷ number_pair Key.MaxMsgs n.max_msgs ∷ []
details_pairs (Details.Stack None) = []
details_pairs (Details.Stack (Some n)) = number_pair Key.Entries n ∷ []
details_pairs (Details.Pipe None) = []
details_pairs (Details.Pipe (Some n)) = number_pair Key.Size n ∷ []
details_pairs Details.Timer = []

abbrev pub kind_of_details : Details → Kind
kind_of_details Details.Thread = Kind.Thread
kind_of_details (Details.ThreadStack size) = Kind.ThreadStack
kind_of_details (Details.Sem n) = Kind.Sem
kind_of_details (Details.Mutex init) = Kind.Mutex
kind_of_details (Details.Msgq n) = Kind.Msgq
kind_of_details (Details.Stack n) = Kind.Stack
kind_of_details (Details.Pipe n) = Kind.Pipe
kind_of_details Details.Timer = Kind.Timer

abbrev pub pairs_by : List ℕ → Bool → Details → Pairs
pairs_by name public details =
    text_pair Key.Name name ∷ text_pair Key.Kind (kind_word (kind_of_details details)) ∷ (truth_pairs Key.Public public ++ details_pairs details)

abbrev pub object_pairs : ObjectEntry → Pairs
object_pairs o = pairs_by o.name o.public o.details
