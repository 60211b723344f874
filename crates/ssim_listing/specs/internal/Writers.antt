-- Between which rows a writer of rows is.
use Rattle.std.specs.Prelude.{◌≡◌, ℕ, false, Vec}
use Rattle.csv.specs.Writing.{default_writer, fields_written, has_written, writer_setup}
use Rattle.csv.specs.declared.writer.Writer.{Writer}

-- a writer with the defaults of its crate has written whole rows alone
pub record IsBetweenRows {A : Type 0} (rows : Writer (Vec ℕ A)) : Type 0 where
  pub setup : writer_setup rows ≡ default_writer
  pub fields : fields_written rows ≡ 0
  pub begun : has_written rows ≡ false
