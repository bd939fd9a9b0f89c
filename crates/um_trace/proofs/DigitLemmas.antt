-- Numbers of two digits, and hexadecimal digits.
use Rattle.std.proofs.Common.{◌≡◌, ℕ, zero, suc, ◌/◌, ◌%◌, ◌≤◌, ◌<◌, List, ◌++◌, refl, sym, ap, ◌∙◌, arith, append_assoc, decimal, slice_index}
use Rattle.std.proofs.lemmas.Fmt.{decimal_step, decimal_digit}
use Rattle.std.specs.Global.{Vec}
use Rattle.um_trace.specs.declared.room.TheConstants.{GLYPHS}
use Rattle.um_trace.specs.Digits.{glyph_of}
use Rattle.um_trace.specs.Room.{Puts}

two_digits : (n : ℕ) → 10 ≤ n → n < 100 → decimal n ≡ decimal (n / 10) ++ decimal (n % 10)
two_digits n some few =
    decimal_step n some (omega arith) ∙ ap (λ (ds : List ℕ). decimal (n / 10) ++ ds) (sym (decimal_digit (n % 10) (omega arith)))

-- one digit is put, and then the other
pub puts_two : (n : ℕ) (a b c : Vec ℕ) → 10 ≤ n → n < 100 → Puts a b (decimal (n / 10)) 1 → Puts b c (decimal (n % 10)) 1 → Puts a c (decimal n) 10
puts_two n a b c some few tens ones = record {
  items = rw (ones.items, tens.items, two_digits n some few) (append_assoc a.items (decimal (n / 10)) (decimal (n % 10)));
  len = omega (arith, tens.len, ones.len);
  capacity = omega (arith, tens.capacity, ones.capacity);
}

-- each of the hexadecimal digits
pub glyph_at : (d : ℕ) → d < 16 → slice_index GLYPHS d ≡ glyph_of d
glyph_at zero h = refl
glyph_at (suc zero) h = refl
glyph_at (suc (suc zero)) h = refl
glyph_at (suc (suc (suc zero))) h = refl
glyph_at (suc (suc (suc (suc zero)))) h = refl
glyph_at (suc (suc (suc (suc (suc zero))))) h = refl
glyph_at (suc (suc (suc (suc (suc (suc zero)))))) h = refl
glyph_at (suc (suc (suc (suc (suc (suc (suc zero))))))) h = refl
glyph_at (suc (suc (suc (suc (suc (suc (suc (suc zero)))))))) h = refl
glyph_at (suc (suc (suc (suc (suc (suc (suc (suc (suc zero))))))))) h = refl
glyph_at (suc (suc (suc (suc (suc (suc (suc (suc (suc (suc zero)))))))))) h = refl
glyph_at (suc (suc (suc (suc (suc (suc (suc (suc (suc (suc (suc zero))))))))))) h = refl
glyph_at (suc (suc (suc (suc (suc (suc (suc (suc (suc (suc (suc (suc zero)))))))))))) h = refl
glyph_at (suc (suc (suc (suc (suc (suc (suc (suc (suc (suc (suc (suc (suc zero))))))))))))) h = refl
glyph_at (suc (suc (suc (suc (suc (suc (suc (suc (suc (suc (suc (suc (suc (suc zero)))))))))))))) h = refl
glyph_at (suc (suc (suc (suc (suc (suc (suc (suc (suc (suc (suc (suc (suc (suc (suc zero))))))))))))))) h = refl
glyph_at (suc (suc (suc (suc (suc (suc (suc (suc (suc (suc (suc (suc (suc (suc (suc (suc d)))))))))))))))) h = absurd (omega arith)
