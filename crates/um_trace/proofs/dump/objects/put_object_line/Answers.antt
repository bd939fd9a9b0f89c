use Rattle.std.proofs.Common.{arith, append_assoc}
use Rattle.um_trace.specs.Dump.{object_line}
use Rattle.um_trace.proofs.dump.objects.put_object_line.Goals as goal

pub returns : goal.returns
unfolding object_line
returns g c = record {
  items =
      rw (c.put_newline.ensures.items, c.put_content.ensures.items, c.put_space-3.ensures.items, c.put_holders.ensures.items, c.put_space-2.ensures.items, c.put_marks.ensures.items, c.put_space.ensures.items, c.put_row.ensures.items, c.image.ensures, c.put_text.ensures.items)
      (simp append_assoc);
  len = omega arith;
  capacity = omega arith;
}
