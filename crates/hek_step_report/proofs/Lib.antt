mod HexLemmas
mod NumberedLines
mod ShownLines
