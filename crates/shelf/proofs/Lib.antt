mod Untold
